-- A new board: its writers and readers, one after the other.
-- For `Board::new`.
use Rattle.std.proofs.Common.{◌≡◌, ℕ, zero, suc, ◌+◌, ◌<◌, List, [], ◌∷◌, ◌++◌, length, map, take, replicate, get_or, refl, sym, ◌∙◌, ap, arith}
use Rattle.std.proofs.lemmas.List.{map-append, length-map}
use Rattle.atomic_table.specs.Seated.{TableId}
use Rattle.lb_board.specs.Board.{Holder, Sight, WriterIs, cell_of, seen_by, sight_of, sight_of_all, first_writer, first_writers}

take_more : (ws : List WriterIs) (i : ℕ) (w : WriterIs) → i < length ws → w ≡ get_or ws i w
    → take (suc i) ws ≡ take i ws ++ w ∷ []
take_more [] i w lt e = absurd (omega arith)
take_more (x ∷ xs) zero w lt e = ap (λ y. y ∷ []) (sym e)
take_more (x ∷ xs) (suc i) w lt e = ap (λ l. x ∷ l) (take_more xs i w (omega arith) e)

-- one writer's figures more are known
pub sight_more : (ps : List Holder) (p : Holder) (ws : List WriterIs) (i : ℕ) (w : WriterIs)
    → sight_of ps ≡ sight_of_all (take i ws) → i < length ws → w ≡ get_or ws i w → cell_of p ≡ w.cell → seen_by p ≡ w.figures
    → sight_of (ps ++ p ∷ []) ≡ sight_of_all (take (i + 1) ws)
sight_more ps p ws i w is lt at cell seen =
    let next : i + 1 ≡ suc i = omega arith in
    let more : take (i + 1) ws ≡ take i ws ++ w ∷ [] = ap (λ n. take n ws) next ∙ take_more ws i w lt at in
    let cells : map cell_of (ps ++ p ∷ []) ≡ map (λ v. v.cell) (take i ws ++ w ∷ []) =
    map-append cell_of ps (p ∷ []) ∙
    ((λ k. (is k).cells ++ cell k ∷ []) ∙ sym (map-append (λ (v : WriterIs). v.cell) (take i ws) (w ∷ []))) in
    let figures : map seen_by (ps ++ p ∷ []) ≡ map (λ v. v.figures) (take i ws ++ w ∷ []) =
    map-append seen_by ps (p ∷ []) ∙
    ((λ k. (is k).seen ++ seen k ∷ []) ∙ sym (map-append (λ (v : WriterIs). v.figures) (take i ws) (w ∷ []))) in
    (λ k. record { cells = cells k; seen = figures k }) ∙ ap sight_of_all (sym more)

pub writers_more : (k : ℕ) (ts : List TableId) (t : TableId) (n : ℕ) → n ≡ k + length ts
    → first_writers k (ts ++ t ∷ []) ≡ first_writers k ts ++ first_writer n t ∷ []
writers_more k [] t n e = let e' : k ≡ n = omega (arith, e) in ap (λ j. first_writer j t ∷ []) e'
writers_more k (x ∷ xs) t n e = ap (λ l. first_writer k x ∷ l) (writers_more (k + 1) xs t n (omega (arith, e)))

pub opened_more : {X : Type 0} (id : X → TableId) (ws more : List WriterIs) (w : WriterIs) (cs cells : List X) (c : X)
    (n : ℕ) → ws ≡ first_writers 0 (map id cs) → length cs ≡ n → w ≡ first_writer n (id c)
    → more ≡ ws ++ w ∷ [] → cells ≡ cs ++ c ∷ [] → more ≡ first_writers 0 (map id cells)
opened_more id ws more w cs cells c n is len first e e' =
    let at : n ≡ 0 + length (map id cs) = omega (arith, len, length-map cs id) in
    e ∙ ((λ k. is k ++ first k ∷ [])
    ∙ (sym (writers_more 0 (map id cs) (id c) n at)
    ∙ ap (first_writers 0) (sym (map-append id cs (c ∷ [])) ∙ ap (map id) (sym e'))))

pub writers_cells : (k : ℕ) (ts : List TableId) → map (λ w. w.cell) (first_writers k ts) ≡ ts
writers_cells k [] = refl
writers_cells k (t ∷ ts) = ap (λ l. t ∷ l) (writers_cells (k + 1) ts)

pub copies_more : (n : ℕ) (s : Sight) → replicate n s ++ s ∷ [] ≡ replicate (suc n) s
copies_more zero s = refl
copies_more (suc n) s = ap (λ l. s ∷ l) (copies_more n s)
