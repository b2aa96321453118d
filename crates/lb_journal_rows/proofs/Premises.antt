-- What the merge asks of lists, as tests that compute: where a test passes, the premise holds.
-- For the laws `header_and_masks`, `unpublished_figure` and `closing_before_all_rest`.
use Rattle.std.proofs.Common.{◌≡◌, ℕ, zero, suc, ◌+◌, ◌-◌, ◌<◌, ◌≤◌, Bool, true, false, not, ◌&&◌, ◌||◌, eqb, leb, ltb, Option, Some, None, List, [], ◌∷◌, ◌++◌, map, length, refl, sym, ◌∙◌, ap, arith, inl, inr, eq-eqb, ne_eqb, le-leb, All, true≢false}
use Rattle.std.specs.List.{list_all, slice_index_or, range_with_len}
use Rattle.std.specs.Prelude.{filter, ◌==◌}
use Rattle.std.proofs.lemmas.Bool.{and_parts, cases_eq, eqb-true, leb-true, ltb-true}
use Rattle.std.proofs.lemmas.List.Elements.{All-nil, All-cons, All-head, All-tail, All-map, All-filter}
use Rattle.lb_base.specs.declared.mask.Mask.{Mask}
use Rattle.lb_trace.specs.declared.trace.Header.{Header}
use Rattle.lb_core.specs.declared.course.Form.{Form}
use Rattle.lb_core.specs.declared.course.Form.TheVariants.{Rest}
use Rattle.lb_core.specs.declared.entry.Owner.{Owner}
use Rattle.lb_core.specs.declared.entry.Owner.TheVariants.{Queue}
use Rattle.lb_core.specs.declared.entry.What.{What}
use Rattle.lb_core.specs.declared.entry.What.TheVariants.{Adopt, Look, Scan, End, Out}
use Rattle.lb_core.specs.declared.entry.Entry.{Entry}
use Rattle.lb_core.specs.declared.history.History.{History}
use Rattle.lb_core.specs.Same.{same_mask, same_number}
use Rattle.lb_core.specs.Elsewhere.{is_rest}
use Rattle.lb_core.specs.Machine.{MachineState, start}
use Rattle.lb_core.specs.Step.{first_broken, after}
use Rattle.lb_core.specs.Legal.{Fault, or_later, missing_end, fault_from}
use Rattle.lb_core.specs.declared.rule.Rule.{Rule}
use Rattle.lb_core.proofs.Equality.{mask_is, number_is}
use Rattle.lb_ticket.specs.declared.item.Drawn.{Drawn}
use Rattle.lb_ticket.specs.Tickets.{pair}
use Rattle.lb_journal.specs.Journal.{Journal, number_of}
use Rattle.lb_journal.specs.Merge.{Each, both_tick, is_closing, ClosesBy, CarriesRead, CarriesVersion, IsLast, HasEnd, LeavesAtRest, pending_before, unserved_before, versions_of, below, list_of}
use Rattle.lb_journal_rows.specs.Lists.{items_from, by_owner}
use Rattle.lb_journal_rows.specs.Missing.{MeetsOthers, CarriesFigures}

-- ---- of two or three tests one passes
second : (a b : Bool) → a || b ≡ true → a ≡ false → b ≡ true
second true b e x = absurd (true≢false x)
second false b e x = e

middle : (a b c : Bool) → a || b || c ≡ true → a ≡ false → c ≡ false → b ≡ true
middle true b c e x y = absurd (true≢false x)
middle false true c e x y = refl
middle false false c e x y = absurd (true≢false (sym e ∙ y))

pub third : (a b c : Bool) → a || b || c ≡ true → a ≡ false → b ≡ false → c ≡ true
third true b c e x y = absurd (true≢false x)
third false true c e x y = absurd (true≢false y)
third false false c e x y = e

-- ---- a test of each item of lists
module _ (p : ℕ × Journal → Bool) (P : ℕ × Journal → Type 0) where
  all_by : ((d : ℕ × Journal) → p d ≡ true → P d) → (ds : List (Drawn Journal)) →
      list_all (λ d. p (pair d)) ds ≡ true → All P (map pair ds)
  all_by f [] e = All-nil P
  all_by f (d ∷ ds) e =
      let s = and_parts (p (pair d)) _ e in All-cons P (pair d) (map pair ds) (f (pair d) s.0) (all_by f ds s.1)

  pub each_by : ((d : ℕ × Journal) → p d ≡ true → P d) → (lists : List (List (Drawn Journal))) →
      list_all (λ ds. list_all (λ d. p (pair d)) ds) lists ≡ true → Each P lists
  each_by f [] e k = All-nil P
  each_by f (ds ∷ lists) e zero = all_by f ds (and_parts (list_all (λ d. p (pair d)) ds) _ e).0
  each_by f (ds ∷ lists) e (suc k) = each_by f lists (and_parts (list_all (λ d. p (pair d)) ds) _ e).1 k

  passes : ((d : ℕ × Journal) → P d → p d ≡ true) → (ds : List (Drawn Journal)) → All P (map pair ds) →
      list_all (λ d. p (pair d)) ds ≡ true
  passes f [] a = refl
  passes f (d ∷ ds) a =
      rw (f (pair d) (All-head P (pair d) (map pair ds) a)) (passes f ds (All-tail P (pair d) (map pair ds) a))

  each_passes : ((d : ℕ × Journal) → P d → p d ≡ true) → (lists : List (List (Drawn Journal))) → Each P lists →
      list_all (λ ds. list_all (λ d. p (pair d)) ds) lists ≡ true
  each_passes f [] a = refl
  each_passes f (ds ∷ lists) a = rw (passes f ds (a 0)) (each_passes f lists (λ k. a (suc k)))

-- a test of each item with each
abbrev pub every : (ℕ × Journal → Bool) → List (List (Drawn Journal)) → Bool
every p lists = list_all (λ ds. list_all (λ d. p (pair d)) ds) lists

abbrev same_masks : List Mask → List Mask → Bool
same_masks [] [] = true
same_masks (a ∷ xs) (b ∷ ys) = same_mask a b && same_masks xs ys
same_masks xs ys = false

module _ (h : Header) (lists : List (List (Drawn Journal))) where
  -- ---- ticks, and the place of the closing entries
  abbrev tick_test : ℕ × Journal → Bool
  tick_test d = every (λ e. not (both_tick d.1 e.1) || eqb d.1.entry.lane e.1.entry.lane) lists

  abbrev last_test : ℕ × Journal → Bool
  last_test d = every (λ e. is_closing lists d.1 || not (is_closing lists e.1) || ltb d.0 e.0) lists

  abbrev begin_test : ℕ × Journal → Bool
  begin_test d =
      not (is_closing lists d.1) || not (eqb d.1.entry.prev 0)
      || every (λ e. not (eqb e.1.entry.lane 0) || leb d.0 e.0) lists

  -- ---- which queues ask for a closing entry
  abbrev closes_by : ℕ → What → Owner → Bool
  closes_by t (Out cause to tasks) (Queue cpu) = same_number (pending_before h lists t) (Some cpu)
  closes_by t (End unserved) o =
      same_number (pending_before h lists t) None && same_mask unserved (unserved_before h lists t)
  closes_by t w o = true

  closes_so : (t : ℕ) (w : What) (o : Owner) → closes_by t w o ≡ true → ClosesBy h lists t w o
  closes_so t (Out cause to tasks) (Queue cpu) e = number_is (pending_before h lists t) (Some cpu) e
  closes_so t (End unserved) o e =
      let s = and_parts (same_number (pending_before h lists t) None) _ e in
      (number_is (pending_before h lists t) None s.0, s.1)
  closes_so t w o e = tt

  abbrev closes_test : ℕ × Journal → Bool
  closes_test d = not (is_closing lists d.1) || closes_by d.0 d.1.entry.what d.1.entry.owner

  -- ---- masks
  abbrev masks_by : ℕ → Journal → What → Bool
  masks_by t j (Adopt version kind cpu) =
      same_masks j.masks (slice_index_or (versions_of h (list_of lists 0)) (version - 1) [])
      && leb version (length (versions_of h (below t (list_of lists 0))))
  masks_by t j w = true

  masks_same : (xs ys : List Mask) → same_masks xs ys ≡ true → xs ≡ ys
  masks_same [] [] e = refl
  masks_same [] (b ∷ ys) e = absurd (true≢false (sym e))
  masks_same (a ∷ xs) [] e = absurd (true≢false (sym e))
  masks_same (a ∷ xs) (b ∷ ys) e =
      let s = and_parts (same_mask a b) _ e in
      let first = mask_is a b s.0 in
      let rest = masks_same xs ys s.1 in
      λ i. first i ∷ rest i

  masks_so : (t : ℕ) (j : Journal) (w : What) → masks_by t j w ≡ true → CarriesVersion h lists t j w
  masks_so t j (Adopt version kind cpu) e =
      let s =
      and_parts (same_masks j.masks (slice_index_or (versions_of h (list_of lists 0)) (version - 1) [])) _ e in
      record { masks = masks_same _ _ s.0; earlier = leb-true _ _ s.1 }
  masks_so t j w e = tt

  abbrev pub masks_test : ℕ × Journal → Bool
  masks_test d = masks_by d.0 d.1 d.1.entry.what

  pub masks_pass : every masks_test lists ≡ true → Each (λ d. CarriesVersion h lists d.0 d.1 d.1.entry.what) lists
  masks_pass e = each_by masks_test _ (λ d t. masks_so d.0 d.1 d.1.entry.what t) lists e

  -- ---- no figures are named
  abbrev names_none : What → Bool
  names_none (Look p x names d) = false
  names_none (Scan names t) = false
  names_none w = true

  figures_so : (t : ℕ) (j : Journal) (w : What) → names_none w ≡ true → CarriesRead h lists t j w
  figures_so t j (Look p x names d) e = absurd (true≢false (sym e))
  figures_so t j (Scan names n) e = absurd (true≢false (sym e))
  figures_so t j w e = tt

  abbrev pub figures_test : ℕ × Journal → Bool
  figures_test d = names_none d.1.entry.what

  pub figures_pass : every figures_test lists ≡ true → CarriesFigures h lists
  figures_pass e = each_by figures_test _ (λ d t. figures_so d.0 d.1 d.1.entry.what t) lists e

  -- ---- how lanes are left
  abbrev not_later : ℕ × Journal → ℕ × Journal → Bool
  not_later d e = is_closing lists e.1 || not (eqb e.1.entry.lane d.1.entry.lane) || leb e.0 d.0

  abbrev pub rest_test : ℕ × Journal → Bool
  rest_test d = is_closing lists d.1 || is_rest d.1.after.form || not (every (not_later d) lists)

  rests : (f : Form) → is_rest f ≡ true → f ≡ Rest
  rests Rest e = refl
  rests f e = absurd (true≢false (sym e))

  is_not_later : (a : Bool) (x y m n : ℕ) → (a ≡ false → x ≡ y → m ≤ n) → a || not (eqb x y) || leb m n ≡ true
  is_not_later true x y m n f = refl
  is_not_later false x y m n f = elim (cases_eq x y) [
    | inl e ↦ let c : eqb x y ≡ true = eq-eqb x y e in let l : leb m n ≡ true = le-leb m n (f refl e) in rw c l
    | inr ne ↦ let c : eqb x y ≡ false = ne_eqb x y ne in rw c refl
  ]

  pub rest_pass : every rest_test lists ≡ true → LeavesAtRest lists
  rest_pass e =
      each_by rest_test (λ d. is_closing lists d.1 ≡ false → IsLast lists d → d.1.after.form ≡ Rest)
      (λ d t goes_on last.
      rests d.1.after.form
      (middle (is_closing lists d.1) (is_rest d.1.after.form) _ t goes_on
      (ap not
      (each_passes (not_later d) (λ e. is_closing lists e.1 ≡ false → e.1.entry.lane ≡ d.1.entry.lane → e.0 ≤ d.0)
      (λ e f. is_not_later (is_closing lists e.1) e.1.entry.lane d.1.entry.lane e.0 d.0 f) lists last))))
      lists e

  -- ---- all but figures and rest
  abbrev pub others_test : ℕ × Journal → Bool
  others_test d = tick_test d && last_test d && closes_test d && begin_test d && masks_test d

  pub others_pass : Each (λ d. d.1.header ≡ h) lists → HasEnd lists → every others_test lists ≡ true →
      MeetsOthers h lists
  others_pass headers ends e = record {
    headers = headers;
    ticks =
        each_by others_test (λ d. Each (λ e. both_tick d.1 e.1 ≡ true → d.1.entry.lane ≡ e.1.entry.lane) lists)
        (λ d t.
        each_by (λ e. not (both_tick d.1 e.1) || eqb d.1.entry.lane e.1.entry.lane)
        (λ e. both_tick d.1 e.1 ≡ true → d.1.entry.lane ≡ e.1.entry.lane)
        (λ e s b. eqb-true d.1.entry.lane e.1.entry.lane (second (not (both_tick d.1 e.1)) _ s (ap not b))) lists
        (tick_of d t))
        lists e;
    closing_last =
        each_by others_test
        (λ d. Each (λ e. is_closing lists d.1 ≡ false → is_closing lists e.1 ≡ true → d.0 < e.0) lists)
        (λ d t.
        each_by (λ e. is_closing lists d.1 || not (is_closing lists e.1) || ltb d.0 e.0)
        (λ e. is_closing lists d.1 ≡ false → is_closing lists e.1 ≡ true → d.0 < e.0)
        (λ e s goes_on closing.
        ltb-true d.0 e.0 (third (is_closing lists d.1) (not (is_closing lists e.1)) _ s goes_on (ap not closing)))
        lists (last_of d t))
        lists e;
    closes =
        each_by others_test
        (λ d. is_closing lists d.1 ≡ true → ClosesBy h lists d.0 d.1.entry.what d.1.entry.owner)
        (λ d t closing.
        closes_so d.0 d.1.entry.what d.1.entry.owner
        (second (not (is_closing lists d.1)) _ (closes_of d t) (ap not closing)))
        lists e;
    begins =
        each_by others_test
        (λ d.
        is_closing lists d.1 ≡ true → d.1.entry.prev ≡ 0 → Each (λ e. e.1.entry.lane ≡ 0 → d.0 ≤ e.0) lists)
        (λ d t closing unquoted.
        each_by (λ e. not (eqb e.1.entry.lane 0) || leb d.0 e.0) (λ e. e.1.entry.lane ≡ 0 → d.0 ≤ e.0)
        (λ e s zero_is.
        leb-true d.0 e.0 (second (not (eqb e.1.entry.lane 0)) _ s (ap not (eq-eqb e.1.entry.lane 0 zero_is))))
        lists
        (third (not (is_closing lists d.1)) (not (eqb d.1.entry.prev 0)) _ (begin_of d t) (ap not closing)
        (ap not (eq-eqb d.1.entry.prev 0 unquoted))))
        lists e;
    ends = ends;
    masks =
        each_by others_test (λ d. CarriesVersion h lists d.0 d.1 d.1.entry.what)
        (λ d t. masks_so d.0 d.1 d.1.entry.what (masks_of d t)) lists e;
  }
    where
      masks_of : (d : ℕ × Journal) → others_test d ≡ true → masks_test d ≡ true
      masks_of d t = (and_parts (tick_test d && last_test d && closes_test d && begin_test d) _ t).1

      first_four : (d : ℕ × Journal) → others_test d ≡ true →
          tick_test d && last_test d && closes_test d && begin_test d ≡ true
      first_four d t = (and_parts (tick_test d && last_test d && closes_test d && begin_test d) _ t).0

      begin_of : (d : ℕ × Journal) → others_test d ≡ true → begin_test d ≡ true
      begin_of d t = (and_parts (tick_test d && last_test d && closes_test d) _ (first_four d t)).1

      first_three : (d : ℕ × Journal) → others_test d ≡ true → tick_test d && last_test d && closes_test d ≡ true
      first_three d t = (and_parts (tick_test d && last_test d && closes_test d) _ (first_four d t)).0

      closes_of : (d : ℕ × Journal) → others_test d ≡ true → closes_test d ≡ true
      closes_of d t = (and_parts (tick_test d && last_test d) _ (first_three d t)).1

      last_of : (d : ℕ × Journal) → others_test d ≡ true → last_test d ≡ true
      last_of d t = (and_parts (tick_test d) _ (and_parts (tick_test d && last_test d) _ (first_three d t)).0).1

      tick_of : (d : ℕ × Journal) → others_test d ≡ true → tick_test d ≡ true
      tick_of d t = (and_parts (tick_test d) _ (and_parts (tick_test d && last_test d) _ (first_three d t)).0).0

-- ---- the header of each item of a history's lists
header_stays : (m : MachineState) (e : Entry) → (after m e).header ≡ m.header
unfolding after
header_stays m e = refl

items_header : (h : Header) (n : ℕ) (m : MachineState) (es : List Entry) → m.header ≡ h →
    All (λ (d : Drawn Journal). d.item.header ≡ h) (items_from n m es)
items_header h n m [] is = All-nil (λ (d : Drawn Journal). d.item.header ≡ h)
items_header h n m (e ∷ es) is =
    All-cons (λ (d : Drawn Journal). d.item.header ≡ h) _ (items_from (n + 1) (after m e) es) is
    (items_header h (n + 1) (after m e) es (header_stays m e ∙ is))

each_list : (P : ℕ × Journal → Type 0) (lists : List (List (Drawn Journal))) → All (λ ds. All P (map pair ds)) lists →
    Each P lists
each_list P [] a k = All-nil P
each_list P (ds ∷ lists) a zero = All-head (λ (l : List (Drawn Journal)). All P (map pair l)) ds lists a
each_list P (ds ∷ lists) a (suc k) =
    each_list P lists (All-tail (λ (l : List (Drawn Journal)). All P (map pair l)) ds lists a) k

start_header : (h : Header) → (start h).header ≡ h
unfolding start
start_header h = refl

pub headers_are : (history : History) → Each (λ d. d.1.header ≡ history.header) (by_owner history)
headers_are history =
    let h = history.header in
    let P : ℕ × Journal → Type 0 = λ d. d.1.header ≡ h in
    let items = items_from 1 (start h) history.entries in
    let all = items_header h 1 (start h) history.entries (start_header h) in
    each_list P (by_owner history)
    (All-map (λ (ds : List (Drawn Journal)). All P (map pair ds))
    (λ (k : ℕ). filter (λ d. number_of d.item.entry.owner == k) items) (range_with_len 0 (17 + length h.cpus))
    (λ k n lt.
    All-map P pair _ (All-filter (λ d. number_of d.item.entry.owner == slice_index_or (range_with_len 0 (17 + length h.cpus)) k n)
    (λ (d : Drawn Journal). P (pair d)) items all)))

-- what is done to items and leaves their headers
mapped_headers : (h : Header) (f : Drawn Journal → Drawn Journal) →
    ((d : Drawn Journal) → (f d).item.header ≡ d.item.header) → (ds : List (Drawn Journal)) →
    All (λ (d : ℕ × Journal). d.1.header ≡ h) (map pair ds) →
    All (λ (d : ℕ × Journal). d.1.header ≡ h) (map pair (map f ds))
mapped_headers h f same [] a = a
mapped_headers h f same (d ∷ ds) a =
    let P : ℕ × Journal → Type 0 = λ d. d.1.header ≡ h in
    All-cons P (pair (f d)) (map pair (map f ds)) (same d ∙ All-head P (pair d) (map pair ds) a)
    (mapped_headers h f same ds (All-tail P (pair d) (map pair ds) a))

pub headers_stay : (h : Header) (f : Drawn Journal → Drawn Journal) →
    ((d : Drawn Journal) → (f d).item.header ≡ d.item.header) → (lists : List (List (Drawn Journal))) →
    Each (λ d. d.1.header ≡ h) lists → Each (λ d. d.1.header ≡ h) (map (λ ds. map f ds) lists)
headers_stay h f same [] a k = All-nil (λ (d : ℕ × Journal). d.1.header ≡ h)
headers_stay h f same (ds ∷ lists) a zero = mapped_headers h f same ds (a 0)
headers_stay h f same (ds ∷ lists) a (suc k) = headers_stay h f same lists (λ j. a (suc j)) k

-- ---- a fault stays, whatever follows
later_same : (b : Option Rule) (n : ℕ) (x y : Option Fault) (f : Fault) → (x ≡ Some f → y ≡ Some f) →
    or_later b n x ≡ Some f → or_later b n y ≡ Some f
later_same None n x y f same e = same e
later_same (Some r) n x y f same e = e

ended_not : (b : Bool) (n : ℕ) (f : Fault) → missing_end b n ≡ Some f → f.ticket ≡ n
ended_not true n f e = absurd (let k : ⊥ = cc in k)
ended_not false n f e = cc

pub fault_stays : (n : ℕ) (es more : List Entry) (m : MachineState) (f : Fault) → fault_from n es m ≡ Some f →
    f.ticket < n + length es → fault_from n (es ++ more) m ≡ Some f
fault_stays n [] more m f e lt = absurd (let t = ended_not m.ended n f e in omega arith)
fault_stays n (x ∷ es) more m f e lt =
    later_same (first_broken m x) n (fault_from (n + 1) es (after m x)) (fault_from (n + 1) (es ++ more) (after m x)) f
    (λ r. fault_stays (n + 1) es more (after m x) f r (omega arith)) e
