-- The rows of a lane are those of its own list, since a row is drawn by its lane; so the ticks are those
-- of the trace.
-- For the law `rows_are_own`.
use Rattle.std.proofs.Common.{◌≡◌, ℕ, zero, suc, ◌+◌, Bool, true, false, not, ◌&&◌, ◌||◌, eqb, ltb, leb, ◌<◌, ◌≤◌, cond, List, [], ◌∷◌, ◌++◌, map, refl, sym, ◌∙◌, ap, subst, arith, eq-eqb, ne_eqb, inl, inr, Option}
use Rattle.std.specs.Prelude.{filter}
use Rattle.std.specs.List.{list_all}
use Rattle.std.proofs.lemmas.Bool.{cases_eq, cases_lt, eqb-true, ltb-true, and_parts, and_from}
use Rattle.std.proofs.lemmas.List.Elements.{filter-append}
use mathlib.Core.Option.{some-ne-none, some-injective}
use Rattle.lb_trace.specs.declared.trace.Command.TheVariants.{Tick}
use Rattle.lb_trace.specs.declared.trace.Header.{Header}
use Rattle.lb_trace.specs.declared.trace.Row.{Row as TraceRow}
use Rattle.lb_trace.specs.declared.trace.TheConstants.{MAX_MOMENT}
use Rattle.lb_trace.specs.declared.trace.Trace.{Trace}
use Rattle.lb_trace.specs.Accepted.{is_row, is_command, agree, ticks_agree, IsTrace}
use Rattle.lb_core.specs.declared.entry.Owner.{Owner}
use Rattle.lb_core.specs.declared.entry.Owner.TheVariants.{Lane}
use Rattle.lb_core.specs.declared.entry.What.{What}
use Rattle.lb_core.specs.declared.entry.What.TheVariants.{Row}
use Rattle.lb_core.specs.Stage.{is_owner}
use Rattle.lb_core.specs.OfTrace.{row_of, rows_drawn, of_lane}
use Rattle.lb_ticket.specs.declared.item.Drawn.{Drawn}
use Rattle.lb_ticket.specs.Tickets.{Closes}
use Rattle.lb_journal.specs.Journal.{Journal, number_of, meaning_of_journal}
use Rattle.lb_journal.specs.Merge.{Each, both_tick, ticked_by, are_one, entries}
use Rattle.lb_journal.specs.Owners.{own_rows, RowsAreOwn}
use Rattle.lb_ticket.proofs.Logs.{owned_from, fits_at}
use Rattle.lb_journal.proofs.Good.{At}
use Rattle.lb_journal.proofs.Lanes.{staged, split_at}
use Rattle.lb_journal.proofs.Ending.{lane_low}
use Rattle.lb_journal.proofs.Bridge.{lists_items, each_from}

-- ---- whose a row is
OwnsRow : What → ℕ → Owner → Type 0
OwnsRow (Row n at command) lane o = o ≡ Lane lane
OwnsRow w lane o = Unit {0}

owns_row : (w : What) (o : Owner) (lane : ℕ) (due : Option ℕ) → is_owner w lane due o ≡ true → OwnsRow w lane o
unfolding OwnsRow
owns_row (Row n at command) (Lane l) lane due e = ap Lane (eqb-true l lane e)
owns_row (Row n at command) o lane due e = absurd (let q : ⊥ = cc in q)
owns_row w o lane due e = tt

one_row : (w : What) (o : Owner) (lane l : ℕ) → OwnsRow w lane o →
    of_lane l (row_of w lane) ≡ cond (eqb (number_of o) (number_of (Lane l))) (row_of w lane) []
unfolding OwnsRow
one_row (Row n at command) o lane l own =
    let r : TraceRow = record { lane = lane; at = at; command = command } in
    let same : eqb lane l ≡ eqb (lane + 1) (l + 1) = elim (cases_eq lane l) [
      | inl e ↦ eq-eqb lane l e ∙ sym (eq-eqb (lane + 1) (l + 1) (omega arith))
      | inr ne ↦ ne_eqb lane l ne ∙ sym (ne_eqb (lane + 1) (l + 1) (λ e. ne (omega arith)))
    ] in
    ap (λ (b : Bool). cond b (r ∷ []) []) (same ∙ ap (λ (x : Owner). eqb (number_of x) (l + 1)) (sym own))
one_row w o lane l own = none (eqb (number_of o) (number_of (Lane l)))
  where
    none : (b : Bool) → [] ≡ cond {A = List TraceRow} b [] []
    none true = refl
    none false = refl

rows_owned : (lane n : ℕ) (log : List Journal) →
    ((k : ℕ) (j : Journal) → At log k j → OwnsRow j.entry.what j.entry.lane j.entry.owner) →
    of_lane lane (rows_drawn (entries log)) ≡ rows_drawn
    (map (λ (d : ℕ × Journal). d.1.entry) (owned_from meaning_of_journal (number_of (Lane lane)) n log))
rows_owned lane n [] own = refl
rows_owned lane n (i ∷ log) own =
    let rows = row_of i.entry.what i.entry.lane in
    let x = number_of (Lane lane) in
    let here = one_row i.entry.what i.entry.owner i.entry.lane lane (own zero i refl) in
    let more = rows_owned lane (n + 1) log (λ k j a. own (suc k) j a) in
    filter-append (λ (r : TraceRow). eqb r.lane lane) rows (rows_drawn (entries log)) ∙ (λ t. here t ++ more t)
    ∙ go (eqb (number_of i.entry.owner) x) (owned_from meaning_of_journal x (n + 1) log)
  where
    go : (b : Bool) (rest : List (ℕ × Journal)) →
        cond b (row_of i.entry.what i.entry.lane) [] ++ rows_drawn (map (λ (d : ℕ × Journal). d.1.entry) rest) ≡
        rows_drawn (map (λ (d : ℕ × Journal). d.1.entry) (cond b ((n, i) ∷ rest) rest))
    go true rest = refl
    go false rest = refl

pub rows_are_own : RowsAreOwn
rows_are_own lists book lane =
    rows_owned lane 1 book.log
    (λ k j a.
    let sp = split_at book.log k j a in
    owns_row j.entry.what j.entry.owner j.entry.lane _
    (staged _ j (fits_at meaning_of_journal lists book sp.pre sp.rest j sp.parts)).owner)
    ∙ ap (λ (l : List (ℕ × Journal)). rows_drawn (map (λ d. d.1.entry) l))
    (sym (lists_items lists book (number_of (Lane lane))))

-- ---- a row that is drawn passes what all rows of its lane pass
module _ (p : TraceRow → Bool) where
  kept_all : (f : TraceRow → Bool) (rows : List TraceRow) → list_all p rows ≡ true → list_all p (filter f rows) ≡ true
  kept_all f [] h = refl
  kept_all f (r ∷ rows) h = let s = and_parts (p r) (list_all p rows) h in go (f r) s.0 (kept_all f rows s.1)
    where
      go : (b : Bool) → p r ≡ true → list_all p (filter f rows) ≡ true →
          list_all p (cond b (r ∷ filter f rows) (filter f rows)) ≡ true
      go true h more = and_from _ _ h more
      go false h more = more

  passes_here : (w : What) (lane : ℕ) (rest : List TraceRow) →
      list_all p (of_lane lane (row_of w lane ++ rest)) ≡ true →
      list_all p (row_of w lane) ≡ true
  passes_here (Row n at command) lane rest h = and_from _ _ (and_parts _ _ (rw (eq-eqb lane lane refl) at h)).0 refl
  passes_here w lane rest h = refl

  passes_later : (w : What) (lane l : ℕ) (rest : List TraceRow) →
      list_all p (of_lane l (row_of w lane ++ rest)) ≡ true →
      list_all p (of_lane l rest) ≡ true
  passes_later (Row n at command) lane l rest h = go (eqb lane l) h
    where
      go : (b : Bool) →
          list_all p (cond b (record { lane = lane; at = at; command = command } ∷ of_lane l rest) (of_lane l rest)) ≡
          true →
          list_all p (of_lane l rest) ≡ true
      go true h = (and_parts _ _ h).1
      go false h = h
  passes_later w lane l rest h = h

  passes_at : (log : List Journal) (k : ℕ) (j : Journal) → At log k j →
      list_all p (of_lane j.entry.lane (rows_drawn (entries log))) ≡ true →
      list_all p (row_of j.entry.what j.entry.lane) ≡ true
  passes_at [] k j a h = absurd (some-ne-none j (sym a))
  passes_at (i ∷ log) zero j a h =
      let same : i ≡ j = some-injective i j a in
      passes_here j.entry.what j.entry.lane (rows_drawn (entries log))
      (subst
      (λ (x : Journal).
      list_all p (of_lane j.entry.lane (row_of x.entry.what x.entry.lane ++ rows_drawn (entries log))) ≡ true)
      same h)
  passes_at (i ∷ log) (suc k) j a h =
      passes_at log k j a (passes_later i.entry.what i.entry.lane j.entry.lane (rows_drawn (entries log)) h)

-- two ticks of one CPU
tick_lanes : (v w : What) (l m : ℕ) (rows : List TraceRow) → are_one (ticked_by v) (ticked_by w) ≡ true →
    ((p : TraceRow → Bool) → list_all p rows ≡ true → list_all p (row_of v l) ≡ true) →
    ((p : TraceRow → Bool) → list_all p rows ≡ true → list_all p (row_of w m) ≡ true) →
    ticks_agree rows ≡ true → l ≡ m
tick_lanes (Row n at (Tick cpu)) (Row k moment (Tick other)) l m rows one first second agrees =
    let a : TraceRow = record { lane = l; at = at; command = Tick cpu } in
    let row = (and_parts (list_all (agree a) rows) true (first (λ r. list_all (agree r) rows) agrees)).0 in
    let both =
    (and_parts (agree a (record { lane = m; at = moment; command = Tick other })) true (second (agree a) row)).0 in
    let same : eqb other cpu ≡ true = eq-eqb other cpu (sym (eqb-true cpu other one)) in
    eqb-true l m (subst (λ (b : Bool). (not b || eqb l m) ≡ true) same both)
tick_lanes (Row n at (Tick cpu)) w l m rows one first second agrees = absurd (let q : ⊥ = cc in q)
tick_lanes v w l m rows one first second agrees = absurd (let q : ⊥ = cc in q)

-- the rows of a lane that is not declared are none
no_rows : (lanes lane : ℕ) (rows : List TraceRow) → lanes ≤ lane → list_all (λ r. ltb r.lane lanes) rows ≡ true →
    of_lane lane rows ≡ []
no_rows lanes lane [] le h = refl
no_rows lanes lane (r ∷ rows) le h =
    let s = and_parts (ltb r.lane lanes) (list_all (λ r. ltb r.lane lanes) rows) h in
    let lt = ltb-true r.lane lanes s.0 in
    rw (ne_eqb r.lane lane (λ e. omega arith)) (no_rows lanes lane rows le s.1)

drawn_below : (lanes : ℕ) (log : List Journal) → ((k : ℕ) (j : Journal) → At log k j → ltb j.entry.lane lanes ≡ true) →
    list_all (λ r. ltb r.lane lanes) (rows_drawn (entries log)) ≡ true
drawn_below lanes [] all = refl
drawn_below lanes (i ∷ log) all = go i.entry.what (all zero i refl) (drawn_below lanes log (λ k j a. all (suc k) j a))
  where
    go : (w : What) → ltb i.entry.lane lanes ≡ true →
        list_all (λ r. ltb r.lane lanes) (rows_drawn (entries log)) ≡ true →
        list_all (λ r. ltb r.lane lanes) (row_of w i.entry.lane ++ rows_drawn (entries log)) ≡ true
    go (Row n at command) lt more = and_from _ _ lt more
    go w lt more = more

rows_below : (h : Header) (rows : List TraceRow) → list_all (is_row h) rows ≡ true →
    list_all (λ r. ltb r.lane h.lanes) rows ≡ true
rows_below h [] all = refl
rows_below h (r ∷ rows) all =
    let s = and_parts (is_row h r) (list_all (is_row h) rows) all in
    and_from _ _
    (and_parts (ltb r.lane h.lanes) (leb r.at MAX_MOMENT)
    (and_parts (ltb r.lane h.lanes && leb r.at MAX_MOMENT) (is_command h r.command) s.0).0).0
    (rows_below h rows s.1)

module _ (t : Trace) (lists : List (List (Drawn Journal))) (book : Closes meaning_of_journal lists) (ok : IsTrace t)
    (headers : Each (λ d. d.1.header ≡ t.header) lists)
    (own : (lane : ℕ) → lane < t.header.lanes → own_rows lists lane ≡ of_lane lane t.rows) where
  -- the rows of each lane are the trace's
  pub rows_by : (lane : ℕ) → of_lane lane (rows_drawn (entries book.log)) ≡ of_lane lane t.rows
  rows_by lane = elim (cases_lt lane t.header.lanes) [
    | inl lt ↦ rows_are_own lists book lane ∙ own lane lt
    | inr ge ↦ no_rows t.header.lanes lane _ ge
        (drawn_below t.header.lanes book.log (lane_low t.header lists book headers))
        ∙ sym (no_rows t.header.lanes lane t.rows ge (rows_below t.header t.rows ok.rows))
  ]

  passes : (k : ℕ) (j : Journal) → At book.log k j → (p : TraceRow → Bool) → list_all p t.rows ≡ true →
      list_all p (row_of j.entry.what j.entry.lane) ≡ true
  passes k j a p h =
      passes_at p book.log k j a
      (subst (λ (l : List TraceRow). list_all p l ≡ true) (sym (rows_by j.entry.lane))
      (kept_all p (λ r. eqb r.lane j.entry.lane) t.rows h))

  pub ticks_by : Each (λ d. Each (λ e. both_tick d.1 e.1 ≡ true → d.1.entry.lane ≡ e.1.entry.lane) lists) lists
  ticks_by =
      each_from lists book (λ d. Each (λ e. both_tick d.1 e.1 ≡ true → d.1.entry.lane ≡ e.1.entry.lane) lists)
      (λ k i a.
      each_from lists book (λ e. both_tick i e.1 ≡ true → i.entry.lane ≡ e.1.entry.lane)
      (λ s j b one.
      tick_lanes i.entry.what j.entry.what i.entry.lane j.entry.lane t.rows one (passes k i a) (passes s j b) ok.ticks))
