-- Lists of seats with one seat more at the end, as they are made and closed one by one.
-- For `Book::close` and `make_seats`.
use Rattle.std.proofs.Common.{map, ◌≡◌, ◌⊎◌, inl, inr, ℕ, ◌+◌, List, [], ◌∷◌, ◌++◌, length, sym, ap, subst, ◌∙◌, arith}
use Rattle.atomic_table.specs.Seated.{TableId}
use Rattle.lb_ticket.specs.declared.item.Drawn.{Drawn}
use Rattle.lb_ticket.specs.Seats.{SeatIs, Numbered, AllEmpty, gathered}
use Rattle.lb_ticket.specs.Tickets.{Among}
use Rattle.lb_ticket.specs.Facts.{held_of}
use Rattle.lb_ticket.specs.Bare.{bare_columns_of}
use Rattle.lb_ticket.specs.declared.view.BareColumn.{BareColumn}
use base.Stored.{Coded}
use Rattle.lb_ticket.proofs.Members.{has_split, has_either}

module _ {I : Type 0} where
  pub numbered_snoc : (t : TableId) (k : ℕ) (ss : List (SeatIs I)) (s : SeatIs I) → Numbered t k ss → s.table ≡ t →
      s.number ≡ k + length ss → Numbered t k (ss ++ s ∷ [])
  numbered_snoc t k [] s n e f = (e, omega arith, tt)
  numbered_snoc t k (x ∷ ss) s n e f = (n.0, n.1, numbered_snoc t (k + 1) ss s n.2 e (omega arith))

  pub numbered_last : (t : TableId) (k : ℕ) (ss : List (SeatIs I)) (s : SeatIs I) → Numbered t k (ss ++ s ∷ []) →
      Numbered t k ss × (s.table ≡ t) × (s.number ≡ k + length ss)
  numbered_last t k [] s n = (tt, n.0, (let e = n.1 in omega arith))
  numbered_last t k (x ∷ ss) s n =
      let r = numbered_last t (k + 1) ss s n.2 in ((n.0, n.1, r.0), r.1, (let e = r.2 in omega arith))

  -- ---- what each of the seats has, as the last of them goes to the one that gathers
  module _ {A : Type 0} (g : SeatIs I → List A) where
    last_split : (ss : List (SeatIs I)) (s : SeatIs I) (x : A) → Among x (gathered g (ss ++ s ∷ [])) →
        Among x (gathered g ss) ⊎ Among x (g s)
    last_split [] s x h = elim (has_split (g s) [] x h) [
      | inl p ↦ inr p
      | inr p ↦ absurd p
    ]
    last_split (y ∷ ss) s x h = elim (has_split (g y) (gathered g (ss ++ s ∷ [])) x h) [
      | inl p ↦ inl (has_either (g y) (gathered g ss) x (inl p))
      | inr p ↦ elim (last_split ss s x p) [
        | inl q ↦ inl (has_either (g y) (gathered g ss) x (inr q))
        | inr q ↦ inr q
      ]
    ]

    pub gathered_first : (all ss : List (SeatIs I)) (s v : SeatIs I) → all ≡ ss ++ s ∷ [] → v ≡ s → (x : A) →
        Among x (gathered g all) → Among x (gathered g ss) ⊎ Among x (g v)
    gathered_first all ss s v e is x h =
        subst (λ (z : SeatIs I). Among x (gathered g ss) ⊎ Among x (g z)) (sym is)
        (last_split ss s x (subst (λ (l : List (SeatIs I)). Among x (gathered g l)) e h))

    pub gathered_step : (all ss : List (SeatIs I)) (s v : SeatIs I) (had now : List A) → all ≡ ss ++ s ∷ [] → v ≡ s →
        (x : A) → (Among x had ⊎ Among x (g v) → Among x now) → Among x (gathered g all) ⊎ Among x had →
        Among x (gathered g ss) ⊎ Among x now
    gathered_step all ss s v had now e is x f (inr p) = inr (f (inl p))
    gathered_step all ss s v had now e is x f (inl p) = elim (gathered_first all ss s v e is x p) [
      | inl q ↦ inl q
      | inr q ↦ inr (f (inr q))
    ]

    pub gathered_none : (ss : List (SeatIs I)) (x : A) (now : List A) → length ss ≡ 0 →
        Among x (gathered g ss) ⊎ Among x now → Among x now
    gathered_none [] x now z (inl p) = absurd p
    gathered_none [] x now z (inr p) = p
    gathered_none (s ∷ ss) x now z h = absurd (omega arith)

  pub empty_snoc : (ss : List (SeatIs I)) (s : SeatIs I) → AllEmpty ss → s.list ≡ [] → s.spare ≡ 0 → s.fresh ≡ [] →
      s.known ≡ [] → s.read ≡ [] → AllEmpty (ss ++ s ∷ [])
  empty_snoc [] s a l p f k r = (l, p, f, k, r, tt)
  empty_snoc (x ∷ ss) s a l p f k r = (a.0, a.1, a.2, a.3, a.4, empty_snoc ss s a.5 l p f k r)

  pub bare_column_step : (ci : Coded I) (k n to : ℕ) (ds : List (Drawn I)) (a b : List BareColumn)
      (rest : List (List (Drawn I))) →
      a ≡ record { owner = n; drawn = map (held_of ci) ds } ∷ [] → b ≡ bare_columns_of ci k rest → n ≡ to → k ≡ to + 1 →
      a ++ b ≡ bare_columns_of ci to (ds ∷ rest)
  bare_column_step ci k n to ds a b rest p q e f =
      let p' : a ≡ record { owner = to; drawn = map (held_of ci) ds } ∷ [] =
      p ∙ ap (λ (z : ℕ). record { owner = z; drawn = map (held_of ci) ds } ∷ []) e in
      let q' : b ≡ bare_columns_of ci (to + 1) rest = q ∙ ap (λ (z : ℕ). bare_columns_of ci z rest) f in
      λ i. p' i ++ q' i
