-- Each step that an owner of the ticket word takes keeps the rule of the word as the code has it (`Bare`), which
-- speaks of codes in place of items: what `Keeping` has, said of codes.
-- For `Book::close`, `Book::new`, `take_in` and others.
use Rattle.std.proofs.Common.{All, get_or, inl, inr, ◌≡◌, ◌⊎◌, ℕ, zero, suc, ◌+◌, ◌%◌, ◌<◌, ◌≤◌, List, [], ◌∷◌, ◌++◌, length, set, map, max, Bool, true, false, refl, sym, ap, ◌∙◌, subst, ⊎_elim}
use Rattle.std.proofs.lemmas.List.{map-set, map-append}
use Rattle.std.proofs.lemmas.List.Elements.{All-nil, All-cons, All-head, All-tail, All-map}
use Rattle.std.specs.Prelude.{◌==◌, if◌then◌else◌, slice_index, Option, Some, None}
use mathlib.Core.Option.{some, some-ne-none, some-injective}
use lib.ListN.{get_elem?}
use base.Stored.{Coded}
use Rattle.atomic_table.proofs.Lists.{set_else}
use Rattle.lb_ticket.specs.declared.item.Drawn.{Drawn}
use Rattle.lb_ticket.specs.declared.view.View.{View}
use Rattle.lb_ticket.specs.declared.view.Column.{Column}
use Rattle.lb_ticket.specs.declared.view.Held.{Held}
use Rattle.lb_ticket.specs.declared.view.Fact.{Fact}
use Rattle.lb_ticket.specs.declared.view.BareColumn.{BareColumn}
use Rattle.lb_ticket.specs.declared.view.Bare.{Bare}
use Rattle.lb_ticket.specs.Tickets.{Meaning, Among, Has, AllBelow, quoted_by, Closes}
use Rattle.lb_ticket.specs.Kept.{Kept}
use Rattle.lb_ticket.proofs.Views.{MayDraw, QuoteKnown, first_drawn, told_view, only, without, drew, drew_at, seat_cut_left, seat_cut_right, both_of, note_left, note_right, learnt, marked, spent_view, root_view, opening_view, columns_of}
use Rattle.lb_ticket.specs.Facts.{only_facts, without_fact, HasFact, FactsBelow, HeldBelow, HasRead, IsDrawn, AllDrawn, held_of, fact_of, QuoteIsKnown, IsUnquoted, AllUnquoted}
use Rattle.lb_ticket.specs.Bare.{first_held, bare_told, bare_opening, bare_spent, bare_cut_left, bare_cut_right, bare_both, bare_note, bare_note_left, bare_note_right, bare_learnt, bare_marked, BareMarks, bare_root, column_of, bare_columns_of, erase, BareMayDraw, bare_drew, bare_drew_at, BareDraws, BareKept}
use Rattle.lb_ticket.proofs.Members.{has_split, has_either, has_map, has_mapped, has_at}
use Rattle.lb_ticket.proofs.Keeping.{draws, seats, gathers, notes, tells, learns, marks, opens}
use Rattle.lb_ticket.proofs.Closing.{closes, closes_holding, closes_read}
use Rattle.lb_ticket.proofs.Closed.{entry_direct, unquoted_direct}

at_map : {A B : Type 0} (f : A → B) (xs : List A) (id : ℕ) (b : B) → get_elem? (map f xs) id ≡ some b →
    (v : A) × (get_elem? xs id ≡ some v) × (f v ≡ b)
at_map f [] id b e = absurd (some-ne-none b (sym e))
at_map f (x ∷ xs) zero b e = (x, refl, some-injective (f x) b e)
at_map f (x ∷ xs) (suc id) b e = at_map f xs id b e

map_inj : {A B : Type 0} (f : A → B) → ((a b : A) → f a ≡ f b → a ≡ b) → (xs ys : List A) → map f xs ≡ map f ys →
    xs ≡ ys
map_inj f inj [] [] e = refl
map_inj f inj [] (y ∷ ys) e = absurd (cc)
map_inj f inj (x ∷ xs) [] e = absurd (cc)
map_inj f inj (x ∷ xs) (y ∷ ys) e =
    let h : f x ≡ f y = cc in
    let t : map f xs ≡ map f ys = cc in
    let p = inj x y h in
    let q = map_inj f inj xs ys t in
    λ k. p k ∷ q k

one_map : {A B : Type 0} (f : A → B) (xs : List A) (b : B) → map f xs ≡ b ∷ [] → (x : A) × (xs ≡ x ∷ []) × (f x ≡ b)
one_map f [] b e = absurd (cc)
one_map f (x ∷ []) b e = (x, refl, cc)
one_map f (x ∷ y ∷ xs) b e = absurd (cc)

module _ {I : Type 0} (ci : Coded I) where
  held_below : (n : ℕ) (ds : List (Drawn I)) → AllBelow n ds → HeldBelow n (map (held_of ci) ds)
  held_below n ds a = All-map (λ (h : Held). h.ticket < n) (held_of ci) ds a

  -- and the other way, of what was read last
  pub read_below : (n : ℕ) (hs : List Held) (ds : List (Drawn I)) → HeldBelow n (hs ++ map (held_of ci) ds) →
      AllBelow n ds
  read_below n [] [] a = All-nil (λ (x : Drawn I). x.ticket < n)
  read_below n [] (d ∷ ds) a =
      All-cons (λ (x : Drawn I). x.ticket < n) d ds (All-head (λ (h : Held). h.ticket < n) _ _ a)
      (read_below n [] ds (All-tail (λ (h : Held). h.ticket < n) _ _ a))
  read_below n (h ∷ hs) ds a = read_below n hs ds (All-tail (λ (h : Held). h.ticket < n) _ _ a)

  -- what was read last is below the ticket
  pub all_read_now : (n : ℕ) (old read : List Held) (ds : List (Drawn I)) → read ≡ old ++ map (held_of ci) ds →
      AllBelow n ds → All (HasRead ci read n) ds
  all_read_now n old read ds e below k d lt =
      record {
        read_it =
            subst (Among (held_of ci (get_or ds k d))) (sym e)
            (has_either old (map (held_of ci) ds) _ (inr (has_mapped (held_of ci) ds _ (has_at ds k d lt))));
        before = below k d lt;
      }

  first_map : (cs : List (Column I)) → map (held_of ci) (first_drawn cs) ≡ first_held (map (column_of ci) cs)
  first_map [] = refl
  first_map (c ∷ cs) = refl

module _ {I L : Type 0} (m : Meaning I L) (ci : Coded I) (cl : Coded L) where
  held_inj : (a b : Drawn I) → held_of ci a ≡ held_of ci b → a ≡ b
  held_inj a b e =
      let t = ap (λ (h : Held). h.ticket) e in
      let i = ci.inj a.item b.item (ap (λ (h : Held). h.item) e) in
      λ k. record { ticket = t k; item = i k }

  only_map : (k : ℕ) (ds : List (Drawn I)) → map (fact_of m cl) (only k ds) ≡ only_facts k (map (fact_of m cl) ds)
  only_map k [] = refl
  only_map k (d ∷ ds) = go (k == d.ticket) (only_map k ds)
    where
      go : (b : Bool) → map (fact_of m cl) (only k ds) ≡ only_facts k (map (fact_of m cl) ds) →
          map (fact_of m cl) (if b then d ∷ only k ds else only k ds) ≡
          (if b then fact_of m cl d ∷ only_facts k (map (fact_of m cl) ds) else only_facts k (map (fact_of m cl) ds))
      go true r = ap (λ l. fact_of m cl d ∷ l) r
      go false r = r

  without_map : (k : ℕ) (ds : List (Drawn I)) →
      map (fact_of m cl) (without k ds) ≡ without_fact k (map (fact_of m cl) ds)
  without_map k [] = refl
  without_map k (d ∷ ds) = go (k == d.ticket) (without_map k ds)
    where
      go : (b : Bool) → map (fact_of m cl) (without k ds) ≡ without_fact k (map (fact_of m cl) ds) →
          map (fact_of m cl) (if b then without k ds else d ∷ without k ds) ≡
          (if b then without_fact k (map (fact_of m cl) ds) else fact_of m cl d ∷ without_fact k
          (map (fact_of m cl) ds))
      go true r = r
      go false r = ap (λ l. fact_of m cl d ∷ l) r

  below_map : (n : ℕ) (ds : List (Drawn I)) → AllBelow n ds → FactsBelow n (map (fact_of m cl) ds)
  below_map n [] a = tt
  below_map n (d ∷ ds) a = (
    All-head (λ (x : Drawn I). x.ticket < n) d ds a,
    below_map n ds (All-tail (λ (x : Drawn I). x.ticket < n) d ds a),
  )

  -- a step of one view, given at the view with this code
  one : (owners id : ℕ) (b : Bare) (words : List ℕ) (bares : List Bare) (Q : Type 0) →
      BareKept m ci cl owners words bares → get_elem? bares id ≡ some b
      →
      ((views : List (View I)) (v : View I) → Kept m owners words views → get_elem? views id ≡ some v →
      erase m ci cl v ≡ b → bares ≡ map (erase m ci cl) views → Q)
      →
      Q
  one owners id b words bares Q k at go =
      let f = at_map (erase m ci cl) k.0 id b (subst (λ l. get_elem? l id ≡ some b) k.1 at) in
      go k.0 f.0 k.2 f.1 f.2 k.1

  set_erase : (bares : List Bare) (views : List (View I)) (id : ℕ) (w : View I) (b : Bare) →
      bares ≡ map (erase m ci cl) views → erase m ci cl w ≡ b → set bares id b ≡ map (erase m ci cl) (set views id w)
  set_erase bares views id w b e p = (λ k. set (e k) id (sym p k)) ∙ sym (map-set (erase m ci cl) views id w)

  fork_erase : (bares : List Bare) (views : List (View I)) (id : ℕ) (l r : View I) (bl br : Bare) →
      bares ≡ map (erase m ci cl) views → erase m ci cl l ≡ bl → erase m ci cl r ≡ br →
      set bares id bl ++ br ∷ [] ≡ map (erase m ci cl) (set views id l ++ r ∷ [])
  fork_erase bares views id l r bl br e p q =
      (λ k. set_erase bares views id l bl e p k ++ sym q k ∷ [])
      ∙ sym (map-append (erase m ci cl) (set views id l) (r ∷ []))

  pub bare_marks : (owners id : ℕ) (b : Bare) (words : List ℕ) (bares : List Bare) →
      BareKept m ci cl owners words bares → get_elem? bares id ≡ some b →
      let n : ℕ = slice_index words 0 in
      BareKept m ci cl owners (set words 0 n) (set bares id (bare_marked b n)) × BareMarks b n (bare_marked b n)
  bare_marks owners id b words bares k at =
      let n : ℕ = slice_index words 0 in
      one owners id b words bares
      (BareKept m ci cl owners (set words 0 n) (set bares id (bare_marked b n)) × BareMarks b n (bare_marked b n)) k at
      (λ views v kept there is all.
      let r = marks m owners id v words views kept there in (
        (
          set views id (marked v n),
          set_erase bares views id (marked v n) (bare_marked b n) all (ap (λ z. bare_marked z n) is),
          r.0,
        ),
        (
          refl,
          subst (λ (z : Bare). z.seen ≤ n) is r.1.1,
          subst (λ (z : Bare). FactsBelow n z.known) is (below_map n v.known r.1.2),
          subst (λ (z : Bare). HeldBelow n z.read) is (held_below ci n v.read r.1.3),
        ),
      ))

  pub bare_notes : (owners id t : ℕ) (b : Bare) (words : List ℕ) (bares : List Bare) →
      BareKept m ci cl owners words bares → get_elem? bares id ≡ some b →
      BareKept m ci cl owners words (set bares id (bare_note_left t b) ++ bare_note_right t b ∷ [])
  bare_notes owners id t b words bares k at =
      one owners id b words bares
      (BareKept m ci cl owners words (set bares id (bare_note_left t b) ++ bare_note_right t b ∷ [])) k at
      (λ views v kept there is all.
      let r = notes m owners id t v words views kept there in
      let w = without_map t v.fresh in
      let o = only_map t v.fresh in
      let left : erase m ci cl (note_left t v) ≡ bare_note_left t b = (λ i. record {
        made = v.made;
        vacant = v.vacant;
        columns = map (column_of ci) v.columns;
        fresh = w i;
        known = map (fact_of m cl) v.known;
        read = map (held_of ci) v.read;
        seen = v.seen;
      }) ∙ ap (bare_note_left t) is in
      let right : erase m ci cl (note_right t v) ≡ bare_note_right t b = ap bare_note o ∙ ap (bare_note_right t) is in (
        set views id (note_left t v) ++ note_right t v ∷ [],
        fork_erase bares views id (note_left t v) (note_right t v)
            (bare_note_left t b) (bare_note_right t b) all left right,
        r,
      ))

  pub bare_tells : (owners id : ℕ) (b : Bare) (words : List ℕ) (bares : List Bare) →
      BareKept m ci cl owners words bares →
      get_elem? bares id ≡ some b → BareKept m ci cl owners words (set bares id b ++ bare_told b ∷ [])
  bare_tells owners id b words bares k at =
      one owners id b words bares (BareKept m ci cl owners words (set bares id b ++ bare_told b ∷ [])) k at
      (λ views v kept there is all.
      let f = first_map ci v.columns in
      let told : erase m ci cl (told_view v) ≡ bare_told b = (λ i. record {
        made = 0;
        vacant = 0;
        columns = [];
        fresh = [];
        known = [];
        read = f i;
        seen = v.seen;
      }) ∙ ap bare_told is in (
        set views id v ++ told_view v ∷ [],
        fork_erase bares views id v (told_view v) b
            (bare_told b) all is told,
        tells m owners id v words views kept there,
      ))

  pub bare_seats : (owners id made vacant : ℕ) → 0 < vacant → (words : List ℕ) (bares : List Bare) →
      BareKept m ci cl owners words bares → get_elem? bares id ≡ some (bare_root made vacant)
      → BareKept m ci cl owners words
      (set bares id (bare_cut_left (bare_root made vacant)) ++ bare_cut_right (bare_root made vacant) ∷ [])
  bare_seats owners id made vacant some_left words bares k at =
      one owners id (bare_root made vacant) words bares
      (BareKept m ci cl owners words
      (set bares id (bare_cut_left (bare_root made vacant)) ++ bare_cut_right (bare_root made vacant) ∷ []))
      k at
      (λ views v kept there is all.
      let root = root_view made vacant in
      let same : v ≡ root = erase_root v is in
      let r = seats m owners id made vacant some_left words views kept (there ∙ ap some same) in (
        set views id (seat_cut_left root) ++ seat_cut_right root ∷ [],
        fork_erase bares views id (seat_cut_left root)
            (seat_cut_right root) (bare_cut_left (bare_root made vacant)) (bare_cut_right (bare_root made vacant)) all refl refl,
        r,
      ))
    where
      none : {A B : Type 0} (f : A → B) (xs : List A) → map f xs ≡ [] → xs ≡ []
      none f [] e = refl
      none f (x ∷ xs) e = absurd (cc)

      erase_root : (v : View I) → erase m ci cl v ≡ bare_root made vacant → v ≡ root_view made vacant
      erase_root v e =
          let a = ap (λ (z : Bare). z.made) e in
          let b = ap (λ (z : Bare). z.vacant) e in
          let c = none (column_of ci) v.columns (ap (λ (z : Bare). z.columns) e) in
          let d = none (fact_of m cl) v.fresh (ap (λ (z : Bare). z.fresh) e) in
          let f = none (fact_of m cl) v.known (ap (λ (z : Bare). z.known) e) in
          let r = none (held_of ci) v.read (ap (λ (z : Bare). z.read) e) in
          let g = ap (λ (z : Bare). z.seen) e in
          λ i. record { made = a i; vacant = b i; columns = c i; fresh = d i; known = f i; read = r i; seen = g i }

  -- a join: the other view, too, has its codes
  join_both : (owners id other : ℕ) (b bw : Bare) (bboth : Bare) (words : List ℕ) (bares : List Bare)
      (f : View I → View I → View I) →
      BareKept m ci cl owners words bares → get_elem? bares id ≡ some b → (other ≡ id → ⊥) →
      get_elem? (set bares id bboth) other ≡ some bw
      → ((v w : View I) → erase m ci cl v ≡ b → erase m ci cl w ≡ bw → erase m ci cl (f v w) ≡ bboth)
      →
      ((views : List (View I)) (v w : View I) → Kept m owners words views → get_elem? views id ≡ some v →
      erase m ci cl w ≡ bw → get_elem? (set views id (f v w)) other ≡ some w →
      Kept m owners words (set (set views id (f v w)) other spent_view))
      → BareKept m ci cl owners words (set (set bares id bboth) other bare_spent)
  join_both owners id other b bw bboth words bares f k at apart there same step =
      one owners id b words bares (BareKept m ci cl owners words (set (set bares id bboth) other bare_spent)) k at
      (λ views v kept here is all.
      let w' : get_elem? bares other ≡ some bw = sym (set_else bares id other bboth apart) ∙ there in
      let found = at_map (erase m ci cl) views other bw (subst (λ l. get_elem? l other ≡ some bw) all w') in
      let w = found.0 in
      let in_set : get_elem? (set views id (f v w)) other ≡ some w = set_else views id other (f v w) apart ∙ found.1 in
      let r = step views v w kept here found.2 in_set in (
        set (set views id (f v w)) other spent_view,
        set_erase (set bares id bboth) (set views id (f v w)) other spent_view bare_spent
            (set_erase bares views id (f v w) bboth all (same v w is found.2)) refl,
        r,
      ))

  pub bare_gathers : (owners id other : ℕ) (b bw : Bare) → bw.vacant ≡ 0 → (words : List ℕ) (bares : List Bare) →
      BareKept m ci cl owners words bares → get_elem? bares id ≡ some b → (other ≡ id → ⊥) →
      get_elem? (set bares id (bare_both b bw)) other ≡ some bw
      → BareKept m ci cl owners words (set (set bares id (bare_both b bw)) other bare_spent)
  bare_gathers owners id other b bw none words bares k at apart there =
      join_both owners id other b bw (bare_both b bw) words bares both_of k at apart there
      (λ v w p q.
      (let c = map-append (column_of ci) w.columns v.columns in
      let f = map-append (fact_of m cl) v.fresh w.fresh in
      let g = map-append (fact_of m cl) v.known w.known in
      let r = map-append (held_of ci) v.read w.read in
      λ i.
      record { made = v.made; vacant = v.vacant; columns = c i; fresh = f i; known = g i; read = r i; seen = v.seen })
      ∙ (λ i. bare_both (p i) (q i)))
      (λ views v w kept here q in_set.
      gathers m owners id other v w (ap (λ (z : Bare). z.vacant) q ∙ none) words views kept here apart in_set)

  pub bare_learns : (owners id other : ℕ) (b bw : Bare) → bw.vacant ≡ 0 → bw.columns ≡ [] → bw.fresh ≡ [] →
      (words : List ℕ) (bares : List Bare) → BareKept m ci cl owners words bares → get_elem? bares id ≡ some b →
      (other ≡ id → ⊥) → get_elem? (set bares id (bare_learnt b bw)) other ≡ some bw
      → BareKept m ci cl owners words (set (set bares id (bare_learnt b bw)) other bare_spent)
  bare_learns owners id other b bw none no_columns no_fresh words bares k at apart there =
      join_both owners id other b bw (bare_learnt b bw) words bares learnt k at apart there
      (λ v w p q.
      (let g = map-append (fact_of m cl) v.known w.known in
      let r = map-append (held_of ci) v.read w.read in
      λ i.
      record {
        made = v.made;
        vacant = v.vacant;
        columns = map (column_of ci) v.columns;
        fresh = map (fact_of m cl) v.fresh;
        known = g i;
        read = r i;
        seen = max v.seen w.seen;
      })
      ∙ (λ i. bare_learnt (p i) (q i)))
      (λ views v w kept here q in_set.
      learns m owners id other v w (ap (λ (z : Bare). z.vacant) q ∙ none)
      (empty (column_of ci) w.columns (ap (λ (z : Bare). z.columns) q ∙ no_columns))
      (empty (fact_of m cl) w.fresh (ap (λ (z : Bare). z.fresh) q ∙ no_fresh)) words views kept here apart in_set)
    where
      empty : {A B : Type 0} (f : A → B) (xs : List A) → map f xs ≡ [] → xs ≡ []
      empty f [] e = refl
      empty f (x ∷ xs) e = absurd (cc)

  quote_typed : (known : List (Drawn I)) (i : I) (o : Option (ℕ × L)) →
      QuoteIsKnown m cl (map (fact_of m cl) known) i o →
      QuoteKnown m known i o
  quote_typed known i None q = tt
  quote_typed known i (Some o) q =
      let h = has_map (fact_of m cl) (record { ticket = o.0; lane = m.lane i; left = cl.code o.1 }) known q in (
        h.0,
        h.1,
        ap (λ (z : Fact). z.ticket) h.2,
        cl.inj (m.leaves h.0.item) o.1 (ap (λ (z : Fact). z.left) h.2),
        ap (λ (z : Fact). z.lane) h.2,
      )

  pub bare_draws : (owners id : ℕ) (b : Bare) (i : I) → BareMayDraw m ci cl b i → (words : List ℕ) (bares : List Bare) →
      BareKept m ci cl owners words bares → get_elem? bares id ≡ some b →
      let n : ℕ = slice_index words 0 in
      let drawn : Bare = bare_drew m ci cl b i n in
      BareKept m ci cl owners (set words 0 ((n + 1) % 18446744073709551616)) (set bares id drawn)
      × BareDraws m ci cl (i ∷ []) b n drawn
  bare_draws owners id b i may words bares k at =
      let n : ℕ = slice_index words 0 in
      one owners id b words bares
      (BareKept m ci cl owners (set words 0 ((n + 1) % 18446744073709551616))
      (set bares id (bare_drew m ci cl b i n)) × BareDraws m ci cl (i ∷ []) b n (bare_drew m ci cl b i n))
      k at
      (λ views v kept here is all.
      let d : Drawn I = record { ticket = n; item = i } in
      let col =
      one_map (column_of ci) v.columns (record { owner = may.owner; drawn = map (held_of ci) may.drawn })
      (ap (λ (z : Bare). z.columns) is ∙ may.is) in
      let list : col.0.drawn ≡ may.drawn =
      map_inj (held_of ci) held_inj col.0.drawn may.drawn (ap (λ (z : BareColumn). z.drawn) col.2) in
      let owner : col.0.owner ≡ may.owner = ap (λ (z : BareColumn). z.owner) col.2 in
      let cols : v.columns ≡ record { owner = may.owner; drawn = may.drawn } ∷ [] =
      col.1 ∙ (λ j. record { owner = owner j; drawn = list j } ∷ []) in
      let typed : MayDraw m v i = record {
        owner = may.owner;
        drawn = may.drawn;
        is = cols;
        owned = may.owned;
        fits = may.fits;
        short = may.short;
        quote =
            quote_typed v.known i (m.quote i)
            (subst (λ (z : Bare). QuoteIsKnown m cl z.known i (m.quote i)) (sym is) may.quote);
      } in
      let r = draws m owners id v i typed words views kept here in
      let c : Column I = record { owner = may.owner; drawn = may.drawn } in
      let x = map-append (held_of ci) may.drawn (d ∷ []) in
      let y = map-append (fact_of m cl) v.fresh (d ∷ []) in
      let z = without_map (quoted_by (m.quote i)) v.known in
      let w : erase m ci cl (drew m v i n) ≡ bare_drew m ci cl b i n =
      ap (λ l. erase m ci cl (drew_at m v i n l)) cols
      ∙ (λ j. record {
        made = v.made;
        vacant = v.vacant;
        columns = record { owner = may.owner; drawn = x j } ∷ [];
        fresh = y j;
        known = z j;
        read = map (held_of ci) v.read;
        seen = n + 1;
      })
      ∙ ap (λ l. bare_drew_at m ci cl (erase m ci cl v) i n l) (sym (ap (λ l. map (column_of ci) l) cols))
      ∙ ap (λ q. bare_drew m ci cl q i n) is in (
        (set views id (drew m v i n), set_erase bares views id (drew m v i n) (bare_drew m ci cl b i n) all w, r.0),
        (
          refl,
          subst (λ (q : Bare). q.seen ≤ n) is r.1,
          subst (λ (q : Bare). only_facts n (q.fresh ++ fact_of m cl d ∷ []) ≡ fact_of m cl d ∷ []) is
              (ap (only_facts n) (sym y) ∙ sym (only_map n (v.fresh ++ d ∷ [])) ∙ ap (λ l. map (fact_of m cl) l) r.2),
          r.3,
        ),
      ))

  pub bare_opens : (owners : ℕ) → owners ≤ 4096 → BareKept m ci cl owners (1 ∷ []) (bare_opening owners ∷ [])
  bare_opens owners few = (opening_view owners ∷ [], refl, opens m owners few)

  columns_typed : (k : ℕ) (cs : List (Column I)) (lists : List (List (Drawn I))) →
      map (column_of ci) cs ≡ bare_columns_of ci k lists → cs ≡ columns_of k lists
  columns_typed k [] [] e = refl
  columns_typed k [] (ds ∷ lists) e = absurd (cc)
  columns_typed k (c ∷ cs) [] e = absurd (cc)
  columns_typed k (c ∷ cs) (ds ∷ lists) e =
      let h : column_of ci c ≡ record { owner = k; drawn = map (held_of ci) ds } = cc in
      let t : map (column_of ci) cs ≡ bare_columns_of ci (k + 1) lists = cc in
      let o = ap (λ (z : BareColumn). z.owner) h in
      let l = map_inj (held_of ci) held_inj c.drawn ds (ap (λ (z : BareColumn). z.drawn) h) in
      let r = columns_typed (k + 1) cs lists t in
      λ j. record { owner = o j; drawn = l j } ∷ r j

  pub bare_closes : (owners id : ℕ) (b : Bare) (lists : List (List (Drawn I))) (words : List ℕ) (bares : List Bare) →
      BareKept m ci cl owners words bares → get_elem? bares id ≡ some b → b.vacant ≡ 0 →
      b.columns ≡ bare_columns_of ci 0 lists → length lists ≡ owners → Closes m lists
  bare_closes owners id b lists words bares k at none is len =
      one owners id b words bares (Closes m lists) k at
      (λ views v kept here e all.
      closes m owners id v lists words views kept here (ap (λ (z : Bare). z.vacant) e ∙ none)
      (columns_typed 0 v.columns lists (ap (λ (z : Bare). z.columns) e ∙ is)) len)

  -- what a view holds of the closed lists is quoted by nobody
  pub bare_holds : (owners id : ℕ) (b : Bare) (lists : List (List (Drawn I))) (words : List ℕ) (bares : List Bare) →
      BareKept m ci cl owners words bares → get_elem? bares id ≡ some b → b.vacant ≡ 0 →
      b.columns ≡ bare_columns_of ci 0 lists → length lists ≡ owners →
      AllUnquoted m cl (b.fresh ++ b.known) lists
  bare_holds owners id b lists words bares k at none is len f has =
      one owners id b words bares (IsUnquoted m cl lists f) k at
      (λ views v kept here e all.
      let empty = ap (λ (z : Bare). z.vacant) e ∙ none in
      let whole = columns_typed 0 v.columns lists (ap (λ (z : Bare). z.columns) e ∙ is) in
      let typed : (d : Drawn I) × (Has d v.fresh ⊎ Has d v.known) × (fact_of m cl d ≡ f) =
      ⊎_elim
      (λ (r : HasFact f b.fresh).
      let t = has_map (fact_of m cl) f v.fresh (subst (HasFact f) (sym (ap (λ (z : Bare). z.fresh) e)) r) in
      let q : (d : Drawn I) × (Has d v.fresh ⊎ Has d v.known) × (fact_of m cl d ≡ f) = (t.0, inl t.1, t.2) in
      q)
      (λ (r : HasFact f b.known).
      let t = has_map (fact_of m cl) f v.known (subst (HasFact f) (sym (ap (λ (z : Bare). z.known) e)) r) in
      let q : (d : Drawn I) × (Has d v.fresh ⊎ Has d v.known) × (fact_of m cl d ≡ f) = (t.0, inr t.1, t.2) in
      q)
      (has_split b.fresh b.known f has) in
      let h = closes_holding m owners id v lists words views kept here empty whole len typed.0 typed.1 in
      let u =
      unquoted_direct m lists (closes m owners id v lists words views kept here empty whole len) typed.0 h.0 h.1 in
      record {
        entry = u.0;
        there = u.1;
        fact = ap (fact_of m cl) u.2 ∙ typed.2;
        unquoted = λ x there q. u.3 x there (q ∙ sym (ap (λ (z : Fact). z.ticket) typed.2));
      })

  -- what a view has read is of the closed lists
  pub bare_read : (owners id : ℕ) (b : Bare) (lists : List (List (Drawn I))) (words : List ℕ) (bares : List Bare) →
      BareKept m ci cl owners words bares → get_elem? bares id ≡ some b → b.vacant ≡ 0 →
      b.columns ≡ bare_columns_of ci 0 lists → length lists ≡ owners →
      AllDrawn ci b.read lists
  bare_read owners id b lists words bares k at none is len h has =
      one owners id b words bares (IsDrawn ci lists h) k at
      (λ views v kept here e all.
      let empty = ap (λ (z : Bare). z.vacant) e ∙ none in
      let whole = columns_typed 0 v.columns lists (ap (λ (z : Bare). z.columns) e ∙ is) in
      let typed = has_map (held_of ci) h v.read (subst (Among h) (sym (ap (λ (z : Bare). z.read) e)) has) in
      let u =
      entry_direct m lists (closes m owners id v lists words views kept here empty whole len) typed.0
      (closes_read m owners id v lists words views kept here empty whole len typed.0 typed.1) in
      record { entry = u.0; there = u.1; held = ap (held_of ci) u.2 ∙ typed.2 })
