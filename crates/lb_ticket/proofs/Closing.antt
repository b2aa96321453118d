-- The view that has all shares has the lists of all owners: what the rule then says of them, and of what that
-- view holds and has read.
-- For the lemmas of `BareKeeping`, and so for `Book::close`, `Book::new` and others.
use Rattle.std.proofs.Common.{◌⊎◌, ◌≡◌, ℕ, ◌+◌, ◌≤◌, List, [], ◌∷◌, length, set, refl, sym, ap, ◌∙◌, subst, ⊎_elim, arith}
use mathlib.Core.Option.{some}
use lib.ListN.{get_elem?}
use Rattle.lb_ticket.specs.declared.item.Drawn.{Drawn}
use Rattle.lb_ticket.specs.declared.view.View.{View}
use Rattle.lb_ticket.specs.declared.view.Column.{Column}
use Rattle.lb_ticket.specs.Tickets.{Meaning, Has, total, times, quotes_of, Stands, AllStand, ListsFit, Closes}
use Rattle.lb_ticket.specs.Kept.{size, times_all, FitColumns, shares, Kept}
use Rattle.lb_ticket.proofs.Views.{spent_view, columns_of}
use Rattle.lb_ticket.proofs.Sums.{has_times, total_set, total_member, once_le}

module _ {I L : Type 0} (m : Meaning I L) where
  none_total : (f : View I → ℕ) → ((u : View I) → shares m u ≡ 0 → f u ≡ 0) → (views : List (View I)) →
      total (shares m) views ≡ 0 → total f views ≡ 0
  none_total f z [] e = refl
  none_total f z (v ∷ vs) e = let h = z v (omega arith) in let t = none_total f z vs (omega arith) in omega arith

  -- a view that has all shares has all
  all_total : (f : View I → ℕ) → ((u : View I) → shares m u ≡ 0 → f u ≡ 0) →
      (views : List (View I)) (id : ℕ) (v : View I) → get_elem? views id ≡ some v →
      total (shares m) views ≡ shares m v →
      total f views ≡ f v
  all_total f z views id v at e =
      let s = total_set (shares m) views id v spent_view at in
      let t = total_set f views id v spent_view at in
      let h = none_total f z (set views id spent_view) (omega arith) in
      let o = z spent_view refl in
      omega arith

  no_columns : (f : List (Column I) → ℕ) → f [] ≡ 0 → (vacant : ℕ) (cs : List (Column I)) → vacant + length cs ≡ 0 →
      f cs ≡ 0
  no_columns f z vacant [] e = z
  no_columns f z vacant (c ∷ cs) e = absurd (omega arith)

  size_of : (k : ℕ) (lists : List (List (Drawn I))) →
      total size (columns_of k lists) ≡ total (λ (ds : List (Drawn I)). length ds) lists
  size_of k [] = refl
  size_of k (ds ∷ rest) = omega (arith, size_of (k + 1) rest)

  times_of : (x k : ℕ) (lists : List (List (Drawn I))) → times_all x (columns_of k lists) ≡ total (times x) lists
  times_of x k [] = refl
  times_of x k (ds ∷ rest) = omega (arith, times_of x (k + 1) rest)

  length_of : (k : ℕ) (lists : List (List (Drawn I))) → length (columns_of k lists) ≡ length lists
  length_of k [] = refl
  length_of k (ds ∷ rest) = omega (arith, length_of (k + 1) rest)

  fit_of : (log : List I) (k : ℕ) (lists : List (List (Drawn I))) → FitColumns m log (columns_of k lists) →
      ListsFit m log k lists
  fit_of log k [] f = tt
  fit_of log k (ds ∷ rest) f = (f.0.is, f.0.stand, fit_of log (k + 1) rest f.1)

  pub closes : (owners id : ℕ) (v : View I) (lists : List (List (Drawn I))) (words : List ℕ) (views : List (View I)) →
      Kept m owners words views → get_elem? views id ≡ some v
      → v.vacant ≡ 0 → v.columns ≡ columns_of 0 lists → length lists ≡ owners → Closes m lists
  closes owners id v lists words views k at none is len =
      let all : total (shares m) views ≡ shares m v =
      (let o = k.owned in let l = ap (λ (cs : List (Column I)). length cs) is in omega (arith, length_of 0 lists)) in
      record {
        log = k.log;
        count =
            sym (size_of 0 lists) ∙ sym (ap (total size) is) ∙ sym
            (all_total (λ (u : View I). total size u.columns)
            (λ u e. no_columns (total size) refl u.vacant u.columns e) views id v at all)
            ∙ k.count;
        each_once =
            (λ x.
            sym (times_of x 0 lists) ∙ sym (ap (times_all x) is) ∙ sym
            (all_total (λ (u : View I). times_all x u.columns)
            (λ u e. no_columns (times_all x) refl u.vacant u.columns e) views id v at all) ∙ k.drawn x);
        lists_fit = fit_of k.log 0 lists (subst (FitColumns m k.log) is (k.views_fit id v at).columns);
        quotes = k.quotes;
        quoted_once = (λ x pos. let u = k.unspent x pos in let o = once_le x (length k.log) in omega arith);
      }

  -- what a view holds stands in the log, and nobody quotes it
  at_stands : (log : List I) (ds : List (Drawn I)) (d : Drawn I) → AllStand log ds → Has d ds → Stands log d
  at_stands log [] d a h = absurd h
  at_stands log (x ∷ ds) d a h =
      ⊎_elim (λ (p : x ≡ d). subst (Stands log) p a.0) (λ (r : Has d ds). at_stands log ds d a.1 r) h

  holds : (owners id : ℕ) (v : View I) (words : List ℕ) (views : List (View I)) (k : Kept m owners words views) →
      get_elem? views id ≡ some v → (d : Drawn I) → Has d v.fresh ⊎ Has d v.known →
      Stands k.log d × (quotes_of m d.ticket k.log ≡ 0)
  holds owners id v words views k at d h =
      let f = k.views_fit id v at in
      let s : Stands k.log d =
      ⊎_elim (λ (r : Has d v.fresh). at_stands k.log v.fresh d f.fresh r)
      (λ (r : Has d v.known). at_stands k.log v.known d f.known r) h in
      let t = s.1 in
      let one : 1 ≤ times d.ticket v.fresh + times d.ticket v.known =
      ⊎_elim (λ (r : Has d v.fresh). let x = has_times d.ticket d v.fresh r refl in omega arith)
      (λ (r : Has d v.known). let x = has_times d.ticket d v.known r refl in omega arith) h in
      let u = k.unspent d.ticket (omega arith) in
      let p = total_member (λ (u : View I). times d.ticket u.fresh + times d.ticket u.known) views id v at in
      let o = once_le d.ticket (length k.log) in
      (s, omega arith)

  pub closes_holding : (owners id : ℕ) (v : View I) (lists : List (List (Drawn I))) (words : List ℕ)
      (views : List (View I)) (k : Kept m owners words views) (at : get_elem? views id ≡ some v) (none : v.vacant ≡ 0)
      (is : v.columns ≡ columns_of 0 lists) (len : length lists ≡ owners) →
      (d : Drawn I) → Has d v.fresh
      ⊎ Has d v.known → Stands (closes owners id v lists words views k at none is len).log d
      × (quotes_of m d.ticket (closes owners id v lists words views k at none is len).log ≡ 0)
  unfolding closes
  closes_holding owners id v lists words views k at none is len d h = holds owners id v words views k at d h

  -- what a view has read stands in the log
  pub closes_read : (owners id : ℕ) (v : View I) (lists : List (List (Drawn I))) (words : List ℕ)
      (views : List (View I)) (k : Kept m owners words views) (at : get_elem? views id ≡ some v) (none : v.vacant ≡ 0)
      (is : v.columns ≡ columns_of 0 lists) (len : length lists ≡ owners) →
      (d : Drawn I) → Has d v.read → Stands (closes owners id v lists words views k at none is len).log d
  unfolding closes
  closes_read owners id v lists words views k at none is len d h = at_stands k.log v.read d (k.views_fit id v at).read h
