-- Each step that an owner of the ticket word takes keeps the rule of the word (`Kept`).
-- For the lemmas of `BareKeeping`, and so for `Book::close`, `Book::new` and others.
use Rattle.std.proofs.Common.{◌≡◌, ◌≢◌, ℕ, zero, suc, ◌+◌, ◌*◌, ◌%◌, ◌<◌, ◌≤◌, List, [], ◌∷◌, ◌++◌, length, set, map, refl, sym, ap, ◌∙◌, subst, ⊎_elim, arith, length-append, append_assoc}
use Rattle.std.specs.Prelude.{slice_index, Option, Some, None}
use mathlib.Core.Option.{some, some-ne-none, some-injective}
use lib.ListN.{get_elem?}
use Rattle.atomic_table.proofs.Lists.{at_set, at_snoc}
use Rattle.lb_ticket.specs.declared.item.Drawn.{Drawn}
use Rattle.lb_ticket.specs.declared.view.View.{View}
use Rattle.lb_ticket.specs.declared.view.Column.{Column}
use Rattle.lb_ticket.specs.Tickets.{Has, Meaning, total, same, once, hit, times, Stands, AllStand, pair, FitsAfter, AllOwned, quoted_by, quote_hit, quotes_of, QuoteFits, AllQuote}
use Rattle.lb_ticket.proofs.Views.{first_drawn, told_view, only, QuoteKnown, MayDraw, drew, drew_at, spent_view, seat_cut_left, seat_cut_right, both_of, note_left, note_right, learnt, marked, Marks, root_view, opening_view}
use Rattle.lb_ticket.specs.Kept.{times_in, times_all, size, FitsColumn, FitColumns, FitsView, shares, Kept}
use Rattle.lb_ticket.proofs.Sums.{once_next, same_ne, once_le, total-append, total_set, all_stand_longer, all_stand-append, stands_below, stands_last, rises_snoc, all_stand_without, all_stand_only, times_parted, only_at, times_at, total_member, none_only, single, only_none, only-append, only_here, all_below}

module _ {I L : Type 0} (m : Meaning I L) where
  fits_snoc : (before : List (ℕ × I)) (ds : List (Drawn I)) (d : Drawn I) → FitsAfter m before ds →
      m.fits (before ++ map pair ds) d.item → FitsAfter m before (ds ++ d ∷ [])
  fits_snoc before [] d fs f = (subst (λ l. m.fits l d.item) (append_nil' before) f, tt)
    where
      append_nil' : (l : List (ℕ × I)) → l ++ [] ≡ l
      append_nil' [] = refl
      append_nil' (x ∷ l) = ap (λ z. x ∷ z) (append_nil' l)
  fits_snoc before (e ∷ ds) d fs f = (
    fs.0,
    fits_snoc (before ++ pair e ∷ []) ds d fs.1
        (subst (λ l. m.fits l d.item) (sym (append_assoc before (pair e ∷ []) (map pair ds))) f),
  )

  owned_snoc : (owner : ℕ) (ds : List (Drawn I)) (d : Drawn I) → AllOwned m owner ds → m.owner d.item ≡ owner →
      AllOwned m owner (ds ++ d ∷ [])
  owned_snoc owner [] d a e = (e, tt)
  owned_snoc owner (x ∷ ds) d a e = (a.0, owned_snoc owner ds d a.1 e)

  columns_longer : (log more : List I) (cs : List (Column I)) → FitColumns m log cs → FitColumns m (log ++ more) cs
  columns_longer log more [] f = tt
  columns_longer log more (c ∷ cs) f = (
    record {
      is = f.0.is;
      stand = all_stand_longer log more c.drawn f.0.stand;
      short = f.0.short;
    },
    columns_longer log more cs f.1,
  )

  view_longer : (log more : List I) (v : View I) → FitsView m log v → FitsView m (log ++ more) v
  view_longer log more v f =
      let h = f.seen in
      record {
        columns = columns_longer log more v.columns f.columns;
        fresh = all_stand_longer log more v.fresh f.fresh;
        known = all_stand_longer log more v.known f.known;
        read = all_stand_longer log more v.read f.read;
        seen = omega (arith, length-append log more);
      }

  columns_small : (log : List I) (cs : List (Column I)) → FitColumns m log cs →
      total size cs ≤ length cs * 1099511627776
  columns_small log [] f = omega arith
  columns_small log (c ∷ cs) f = let s = f.0.short in omega (arith, columns_small log cs f.1)

  views_small : (log : List I) (views : List (View I)) →
      ((j : ℕ) (v : View I) → get_elem? views j ≡ some v → FitsView m log v) →
      total (λ (v : View I). total size v.columns) views ≤ total (shares m) views * 1099511627776
  views_small log [] f = omega arith
  views_small log (v ∷ vs) f =
      let h = columns_small log v.columns (f 0 v refl).columns in
      let t = views_small log vs (λ j u e. f (suc j) u e) in
      omega arith

  log_small : (owners : ℕ) (words : List ℕ) (views : List (View I)) (k : Kept m owners words views) →
      length k.log + 2 < 18446744073709551616
  log_small owners words views k =
      let h = views_small k.log views k.views_fit in
      let o = k.owned in
      let c = k.count in
      let f = k.few in
      omega arith

  quote_snoc : (before log : List I) (i : I) → AllQuote m before log → QuoteFits m (before ++ log) i (m.quote i) →
      AllQuote m before (log ++ i ∷ [])
  quote_snoc before [] i a q = (subst (λ l. QuoteFits m l i (m.quote i)) (append_nil' before) q, tt)
    where
      append_nil' : (l : List I) → l ++ [] ≡ l
      append_nil' [] = refl
      append_nil' (x ∷ l) = ap (λ z. x ∷ z) (append_nil' l)
  quote_snoc before (x ∷ log) i a q = (
    a.0,
    quote_snoc (before ++ x ∷ []) log i a.1
        (subst (λ l. QuoteFits m l i (m.quote i)) (sym (append_assoc before (x ∷ []) log)) q),
  )

  views_set : (log now : List I) (views : List (View I)) (id : ℕ) (w : View I) →
      ((j : ℕ) (u : View I) → get_elem? views j ≡ some u → FitsView m now u) → FitsView m now w → (j : ℕ) (u : View I) →
      get_elem? (set views id w) j ≡ some u → FitsView m now u
  views_set log now views id w others mine j u e =
      ⊎_elim
      (λ (x : (j ≡ id) × (w ≡ u)). subst (FitsView m now) x.1 mine)
      (λ (x : (j ≢ id) × (get_elem? views j ≡ some u)). others j u x.1)
      (at_set views id j w u e)

  quote_fits : (log : List I) (known : List (Drawn I)) (i : I) (o : Option (ℕ × L)) → AllStand log known →
      QuoteKnown m known i o → QuoteFits m log i o
  quote_fits log known i None a q = tt
  quote_fits log known i (Some o) a q =
      let st = stands_of log known q.0 a q.1 in (q.0.item, (st.0, sym q.2 ∙ st.1, st.2), q.3, q.4)
    where
      stands_of : (log : List I) (ds : List (Drawn I)) (d : Drawn I) → AllStand log ds → Has d ds → Stands log d
      stands_of log [] d a h = absurd h
      stands_of log (x ∷ ds) d a h =
          ⊎_elim (λ (p : x ≡ d). subst (Stands log) p a.0) (λ (r : Has d ds). stands_of log ds d a.1 r) h

  quote_spent : (x : ℕ) (known : List (Drawn I)) (i : I) (o : Option (ℕ × L)) → 0 < x → times (quoted_by o) known ≤ 1 →
      QuoteKnown m known i o → times x (only (quoted_by o) known) ≡ same x (quoted_by o)
  quote_spent x known i None pos le q =
      times_at x 0 (only 0 known) (λ e. omega arith) (only_at 0 known) ∙ sym (same_ne x 0 (λ e. omega arith))
  quote_spent x known i (Some o) pos le q =
      let one : times x (q.0 ∷ []) ≡ same x o.0 =
      (let h : same x q.0.ticket ≡ same x o.0 = ap (λ (t : ℕ). same x t) q.2 in omega arith) in
      ap (times x) (single o.0 q.0 known le q.1 q.2) ∙ one

  -- a ticket is known at most once
  known_once : (owners id : ℕ) (v : View I) (words : List ℕ) (views : List (View I)) (k : Kept m owners words views) →
      get_elem? views id ≡ some v → (x : ℕ) → times x v.known ≤ 1
  known_once owners id v words views k at zero =
      let z = only_none_low k.log v.known (k.views_fit id v at).known in omega arith
    where
      only_none_low : (log : List I) (ds : List (Drawn I)) → AllStand log ds → times 0 ds ≡ 0
      only_none_low log [] s = refl
      only_none_low log (d ∷ ds) s =
          let b = stands_below log d s.0 in
          let z = same_ne 0 d.ticket (λ e. omega arith) in
          omega (arith, only_none_low log ds s.1)
  known_once owners id v words views k at (suc x) =
      let t = total_member (λ (u : View I). times (suc x) u.fresh + times (suc x) u.known) views id v at in
      let u = k.unspent (suc x) (omega arith) in
      let o = once_le (suc x) (length k.log) in
      omega arith

  -- a draw keeps the rule
  pub draws : (owners id : ℕ) (v : View I) (i : I) → MayDraw m v i → (words : List ℕ) (views : List (View I)) →
      Kept m owners words views → get_elem? views id ≡ some v →
      let n : ℕ = slice_index words 0 in
      let d : Drawn I = record { ticket = n; item = i } in
      Kept m owners (set words 0 ((n + 1) % 18446744073709551616)) (set views id (drew m v i n))
      × (v.seen ≤ n) × (only n (v.fresh ++ d ∷ []) ≡ d ∷ []) × (0 < n)
  draws owners id v i may words views k at =
      let n : ℕ = slice_index words 0 in
      let ne : n ≡ length k.log + 1 = ap (λ (l : List ℕ). slice_index l 0) k.word in
      let small = log_small owners words views k in
      let c : Column I = record { owner = may.owner; drawn = may.drawn } in
      let w = drew_at m v i n (c ∷ []) in
      let d : Drawn I = record { ticket = n; item = i } in
      let now : List I = k.log ++ i ∷ [] in
      let len : length now ≡ length k.log + 1 = omega (arith, length-append k.log (i ∷ [])) in
      let mine = k.views_fit id v at in
      let col : FitColumns m k.log (c ∷ []) = subst (FitColumns m k.log) may.is mine.columns in
      let is = col.0.is in
      let stand : AllStand now (may.drawn ++ d ∷ []) =
      all_stand-append now may.drawn (d ∷ []) (all_stand_longer k.log (i ∷ []) may.drawn col.0.stand)
      (stands_last k.log n i ne, tt) in
      let short : length (may.drawn ++ d ∷ []) < 1099511627776 =
      (let s = may.short in omega (arith, length-append may.drawn (d ∷ []))) in
      let pos : 0 < n = omega arith in
      let fc : FitsColumn m now (record { owner = may.owner; drawn = may.drawn ++ d ∷ [] }) = record {
        is = record {
          rises = rises_snoc k.log 0 n i may.drawn col.0.stand ne pos is.rises;
          fits = fits_snoc [] may.drawn d is.fits may.fits;
          owned = owned_snoc may.owner may.drawn d is.owned may.owned;
        };
        stand = stand;
        short = short;
      } in
      let fv : FitsView m now w = record {
        columns = (fc, tt);
        fresh =
            all_stand-append now v.fresh (d ∷ []) (all_stand_longer k.log (i ∷ []) v.fresh mine.fresh)
            (stands_last k.log n i ne, tt);
        known =
            all_stand_without now (quoted_by (m.quote i)) v.known (all_stand_longer k.log (i ∷ []) v.known mine.known);
        read = all_stand_longer k.log (i ∷ []) v.read mine.read;
        seen = omega arith;
      } in
      let kept : Kept m owners (set words 0 ((n + 1) % 18446744073709551616)) (set views id w) = record {
        log = now;
        word =
            ap (λ (l : List ℕ). set l 0 ((n + 1) % 18446744073709551616)) k.word
            ∙ ap (λ (z : ℕ). z ∷ []) (let r : (n + 1) % 18446744073709551616 ≡ n + 1 = omega arith in omega arith);
        few = k.few;
        owned =
            (let t = total_set (shares m) views id v w at in
            let cs = ap (λ (l : List (Column I)). length l) may.is in
            let o = k.owned in
            omega arith);
        count =
            (let t = total_set (λ (u : View I). total size u.columns) views id v w at in
            let cs = ap (total size) may.is in
            let o = k.count in
            omega (arith, length-append may.drawn (d ∷ [])));
        drawn = (λ x.
            let t = total_set (λ (u : View I). times_all x u.columns) views id v w at in
            let cs = ap (times_all x) may.is in
            let o = k.drawn x in
            let a = total-append (hit x) may.drawn (d ∷ []) in
            let b = ap (once x) len ∙ once_next x (length k.log + 1) (length k.log) refl in
            let h : hit x d ≡ same x (length k.log + 1) = ap (λ (z : ℕ). same x z) ne in
            omega arith);
        unspent = (λ x posx.
            let t = total_set (λ (u : View I). times x u.fresh + times x u.known) views id v w at in
            let o = k.unspent x posx in
            let a = total-append (hit x) v.fresh (d ∷ []) in
            let b = ap (once x) len ∙ once_next x (length k.log + 1) (length k.log) refl in
            let h : hit x d ≡ same x (length k.log + 1) = ap (λ (z : ℕ). same x z) ne in
            let q = total-append (quote_hit m x) k.log (i ∷ []) in
            let p = times_parted x (quoted_by (m.quote i)) v.known in
            let s =
            quote_spent x v.known i (m.quote i) posx
            (known_once owners id v words views k at (quoted_by (m.quote i))) may.quote in
            omega arith);
        quotes = quote_snoc [] k.log i k.quotes (quote_fits k.log v.known i (m.quote i) mine.known may.quote);
        views_fit = views_set k.log now views id w (λ j u e. view_longer k.log (i ∷ []) u (k.views_fit j u e)) fv;
      } in (
        subst (λ z. Kept m owners (set words 0 ((n + 1) % 18446744073709551616)) (set views id z))
            (sym (ap (drew_at m v i n) may.is)) kept,
        (let s = mine.seen in omega arith),
        only-append n v.fresh (d ∷ [])
            ∙ ap (λ l. l ++ only n (d ∷ [])) (none_only n v.fresh (only_none k.log n v.fresh mine.fresh (omega arith)))
            ∙ only_here d,
        pos,
      )

  -- two views become two others that have the same between them
  pub record SameSums (v w a b : View I) : Type 0 where
    pub shares_same : shares m a + shares m b ≡ shares m v + shares m w
    pub count_same : total size a.columns + total size b.columns ≡ total size v.columns + total size w.columns
    pub drawn_same : (x : ℕ) →
        times_all x a.columns + times_all x b.columns ≡ times_all x v.columns + times_all x w.columns
    pub unspent_same : (x : ℕ) →
        (times x a.fresh + times x a.known) + (times x b.fresh + times x b.known) ≡ (times x v.fresh + times x v.known)
        + (times x w.fresh + times x w.known)

  total_fork : (f : View I → ℕ) (views : List (View I)) (id : ℕ) (v w l r : View I) → get_elem? views id ≡ some v →
      f w ≡ 0 → f l + f r ≡ f v + f w → total f (set views id l ++ r ∷ []) ≡ total f views
  total_fork f views id v w l r at z e =
      let t = total_set f views id v l at in omega (arith, total-append f (set views id l) (r ∷ []))

  total_join : (f : View I → ℕ) (views : List (View I)) (id other : ℕ) (v w a b : View I) →
      get_elem? views id ≡ some v →
      get_elem? (set views id a) other ≡ some w → f a + f b ≡ f v + f w →
      total f (set (set views id a) other b) ≡ total f views
  total_join f views id other v w a b at there e =
      let t = total_set f views id v a at in let u = total_set f (set views id a) other w b there in omega arith

  pub forks : (owners id : ℕ) (v l r : View I) (words : List ℕ) (views : List (View I)) → SameSums v spent_view l r →
      Kept m owners words views → get_elem? views id ≡ some v
      → ((log : List I) → FitsView m log v → FitsView m log l × FitsView m log r) →
      Kept m owners words (set views id l ++ r ∷ [])
  forks owners id v l r words views s k at fit =
      let both = fit k.log (k.views_fit id v at) in
      record {
        log = k.log;
        word = k.word;
        few = k.few;
        owned = total_fork (shares m) views id v spent_view l r at refl s.shares_same ∙ k.owned;
        count =
            total_fork (λ (u : View I). total size u.columns) views id v spent_view l r at refl s.count_same ∙ k.count;
        drawn =
            (λ x.
            total_fork (λ (u : View I). times_all x u.columns) views id v spent_view l r at refl (s.drawn_same x)
            ∙ k.drawn x);
        unspent =
            (λ x pos.
            ap (λ (z : ℕ). quotes_of m x k.log + z)
            (total_fork (λ (u : View I). times x u.fresh + times x u.known) views id v spent_view l r at refl
            (s.unspent_same x)) ∙ k.unspent x pos);
        quotes = k.quotes;
        views_fit =
            (λ j u e.
            ⊎_elim (λ was. views_set k.log k.log views id l k.views_fit both.0 j u was)
            (λ (q : r ≡ u). subst (FitsView m k.log) q both.1) (at_snoc (set views id l) r u j e));
      }

  pub joins : (owners id other : ℕ) (v w a b : View I) (words : List ℕ) (views : List (View I)) → SameSums v w a b →
      Kept m owners words views → get_elem? views id ≡ some v → (other ≡ id → ⊥) →
      get_elem? (set views id a) other ≡ some w
      → ((log : List I) → FitsView m log v → FitsView m log w → FitsView m log a × FitsView m log b) →
      Kept m owners words (set (set views id a) other b)
  joins owners id other v w a b words views s k at apart there fit =
      let fw : FitsView m k.log w =
      ⊎_elim (λ (t : (other ≡ id) × (a ≡ w)). absurd (apart t.0))
      (λ (t : (other ≢ id) × (get_elem? views other ≡ some w)). k.views_fit other w t.1)
      (at_set views id other a w there) in
      let both = fit k.log (k.views_fit id v at) fw in
      record {
        log = k.log;
        word = k.word;
        few = k.few;
        owned = total_join (shares m) views id other v w a b at there s.shares_same ∙ k.owned;
        count =
            total_join (λ (u : View I). total size u.columns) views id other v w a b at there s.count_same ∙ k.count;
        drawn =
            (λ x.
            total_join (λ (u : View I). times_all x u.columns) views id other v w a b at there (s.drawn_same x)
            ∙ k.drawn x);
        unspent =
            (λ x pos.
            ap (λ (z : ℕ). quotes_of m x k.log + z)
            (total_join (λ (u : View I). times x u.fresh + times x u.known) views id other v w a b at there
            (s.unspent_same x)) ∙ k.unspent x pos);
        quotes = k.quotes;
        views_fit =
            views_set k.log k.log (set views id a) other b
            (λ j u e. views_set k.log k.log views id a k.views_fit both.0 j u e) both.1;
      }

  columns-append : (log : List I) (cs ds : List (Column I)) → FitColumns m log cs → FitColumns m log ds →
      FitColumns m log (cs ++ ds)
  columns-append log [] ds f g = g
  columns-append log (c ∷ cs) ds f g = (f.0, columns-append log cs ds f.1 g)

  spent_fits : (log : List I) → FitsView m log spent_view
  spent_fits log = record { columns = tt; fresh = tt; known = tt; read = tt; seen = omega arith }

  -- a new seat
  pub seats : (owners id made vacant : ℕ) → 0 < vacant → (words : List ℕ) (views : List (View I)) →
      Kept m owners words views → get_elem? views id ≡ some (root_view made vacant)
      → Kept m owners words
      (set views id (seat_cut_left (root_view made vacant)) ++ seat_cut_right (root_view made vacant) ∷ [])
  seats owners id made vacant some_left words views k at =
      forks owners id (root_view made vacant) (seat_cut_left (root_view made vacant))
      (seat_cut_right (root_view made vacant)) words views
      (record {
        shares_same = omega arith;
        count_same = refl;
        drawn_same = (λ x. refl);
        unspent_same = (λ x. refl);
      }) k at
      (λ log f. (
        record { columns = f.columns; fresh = f.fresh; known = f.known; read = f.read; seen = f.seen },
        record {
          columns = (record { is = record { rises = tt; fits = tt; owned = tt }; stand = tt; short = omega arith }, tt);
          fresh = tt;
          known = tt;
          read = tt;
          seen = omega arith;
        },
      ))

  -- a seat is taken in
  pub gathers : (owners id other : ℕ) (v w : View I) → w.vacant ≡ 0 → (words : List ℕ) (views : List (View I)) →
      Kept m owners words views → get_elem? views id ≡ some v → (other ≡ id → ⊥) →
      get_elem? (set views id (both_of v w)) other ≡ some w
      → Kept m owners words (set (set views id (both_of v w)) other spent_view)
  gathers owners id other v w none words views k at apart there =
      joins owners id other v w (both_of v w) spent_view words views
      (record {
        shares_same = omega (arith, length-append w.columns v.columns);
        count_same = omega (arith, total-append size w.columns v.columns);
        drawn_same = (λ x. omega (arith, total-append (times_in x) w.columns v.columns));
        unspent_same =
            (λ x.
            let p = total-append (hit x) v.fresh w.fresh in
            let q = total-append (hit x) v.known w.known in
            omega arith);
      })
      k at apart there
      (λ log f g. (
        record {
          columns = columns-append log w.columns v.columns g.columns f.columns;
          fresh = all_stand-append log v.fresh w.fresh f.fresh g.fresh;
          known = all_stand-append log v.known w.known f.known g.known;
          read = all_stand-append log v.read w.read f.read g.read;
          seen = f.seen;
        },
        spent_fits log,
      ))

  -- the rule at the start
  pub opens : (owners : ℕ) → owners ≤ 4096 → Kept m owners (1 ∷ []) (opening_view owners ∷ [])
  opens owners few = record {
    log = [];
    word = refl;
    few = few;
    owned = omega arith;
    count = refl;
    drawn = (λ x. refl);
    unspent = (λ x pos. refl);
    quotes = tt;
    views_fit = first;
  }
    where
      first : (j : ℕ) (v : View I) → get_elem? (opening_view owners ∷ []) j ≡ some v → FitsView m [] v
      first zero v e = subst (FitsView m []) (some-injective _ _ e) (record {
        columns = tt;
        fresh = tt;
        known = tt;
        read = tt;
        seen = omega arith;
      })
      first (suc j) v e = absurd (some-ne-none v (sym e))

  -- a note is cut off
  pub notes : (owners id t : ℕ) (v : View I) (words : List ℕ) (views : List (View I)) → Kept m owners words views →
      get_elem? views id ≡ some v → Kept m owners words (set views id (note_left t v) ++ note_right t v ∷ [])
  notes owners id t v words views k at =
      forks owners id v (note_left t v) (note_right t v) words views
      (record {
        shares_same = omega arith;
        count_same = omega arith;
        drawn_same = (λ x. omega arith);
        unspent_same = (λ x. let p = times_parted x t v.fresh in omega arith);
      }) k at
      (λ log f. (
        record {
          columns = f.columns;
          fresh = all_stand_without log t v.fresh f.fresh;
          known = f.known;
          read = f.read;
          seen = f.seen;
        },
        record {
          columns = tt;
          fresh = tt;
          known = all_stand_only log t v.fresh f.fresh;
          read = tt;
          seen = omega arith;
        },
      ))

  -- a note is learnt
  pub learns : (owners id other : ℕ) (v w : View I) → w.vacant ≡ 0 → w.columns ≡ [] → w.fresh ≡ [] →
      (words : List ℕ) (views : List (View I)) → Kept m owners words views → get_elem? views id ≡ some v →
      (other ≡ id → ⊥) → get_elem? (set views id (learnt v w)) other ≡ some w
      → Kept m owners words (set (set views id (learnt v w)) other spent_view)
  learns owners id other v w none no_columns_here no_fresh words views k at apart there =
      joins owners id other v w (learnt v w) spent_view words views
      (record {
        shares_same = (let c = ap (λ (cs : List (Column I)). length cs) no_columns_here in omega arith);
        count_same = (let c = ap (total size) no_columns_here in omega arith);
        drawn_same = (λ x. let c = ap (times_all x) no_columns_here in omega arith);
        unspent_same =
            (λ x. let c = ap (times x) no_fresh in let q = total-append (hit x) v.known w.known in omega arith);
      })
      k at apart there
      (λ log f g. (
        record {
          columns = f.columns;
          fresh = f.fresh;
          known = all_stand-append log v.known w.known f.known g.known;
          read = all_stand-append log v.read w.read f.read g.read;
          seen = (let a = f.seen in let b = g.seen in omega arith);
        },
        spent_fits log,
      ))

  first_stands : (log : List I) (cs : List (Column I)) → FitColumns m log cs → AllStand log (first_drawn cs)
  first_stands log [] f = tt
  first_stands log (c ∷ cs) f = f.0.stand

  -- what was drawn is told
  pub tells : (owners id : ℕ) (v : View I) (words : List ℕ) (views : List (View I)) → Kept m owners words views →
      get_elem? views id ≡ some v → Kept m owners words (set views id v ++ told_view v ∷ [])
  tells owners id v words views k at =
      forks owners id v v (told_view v) words views (record {
        shares_same = omega arith;
        count_same = omega arith;
        drawn_same = (λ x. omega arith);
        unspent_same = (λ x. omega arith);
      }) k at
      (λ log f. (
        f,
        record {
          columns = tt;
          fresh = tt;
          known = tt;
          read = first_stands log v.columns f.columns;
          seen = f.seen;
        },
      ))

  -- a load
  pub marks : (owners id : ℕ) (v : View I) (words : List ℕ) (views : List (View I)) → Kept m owners words views →
      get_elem? views id ≡ some v →
      let n : ℕ = slice_index words 0 in
      Kept m owners (set words 0 n) (set views id (marked v n)) × Marks v n (marked v n)
  marks owners id v words views k at =
      let n : ℕ = slice_index words 0 in
      let ne : n ≡ length k.log + 1 = ap (λ (l : List ℕ). slice_index l 0) k.word in
      let f = k.views_fit id v at in
      let s = f.seen in (
        record {
          log = k.log;
          word = ap (λ (l : List ℕ). set l 0 n) k.word ∙ ap (λ (z : ℕ). z ∷ []) ne;
          few = k.few;
          owned = (let t = total_set (shares m) views id v (marked v n) at in let o = k.owned in omega arith);
          count =
              (let t = total_set (λ (u : View I). total size u.columns) views id v (marked v n) at in
              let o = k.count in
              omega arith);
          drawn =
              (λ x.
              let t = total_set (λ (u : View I). times_all x u.columns) views id v (marked v n) at in
              let o = k.drawn x in
              omega arith);
          unspent =
              (λ x pos.
              let t = total_set (λ (u : View I). times x u.fresh + times x u.known) views id v (marked v n) at in
              let o = k.unspent x pos in
              omega arith);
          quotes = k.quotes;
          views_fit = views_set k.log k.log views id (marked v n) k.views_fit (record {
            columns = f.columns;
            fresh = f.fresh;
            known = f.known;
            read = f.read;
            seen = omega arith;
          });
        },
        (
          refl,
          omega arith,
          all_below k.log n v.known f.known (omega arith),
          all_below k.log n v.read f.read (omega arith),
        ),
      )
