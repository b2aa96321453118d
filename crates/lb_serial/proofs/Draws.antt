-- Which lane draws the next entry: between two rows it takes up the row that is next; in the service of a
-- row it is of the lane that serves it; and from the last row on it is of lane 0. So each draw leads from
-- where the run stands to where it stands then.
-- For `serial` and `Run::serve`.
use Rattle.std.proofs.Common.{◌≡◌, ℕ, suc, ◌+◌, ◌-◌, ◌<◌, Bool, true, false, Option, Some, None, List, [], ◌∷◌, ◌++◌, length, drop, slice_get, refl, sym, ◌∙◌, ap, subst, inl, inr, arith, add-one, drop-cons, get_or-set_other, length-set, length-append}
use Rattle.std.specs.Prelude.{option_to_list}
use Rattle.std.proofs.lemmas.Bool.{cases_eq}
use Rattle.std.proofs.lemmas.Option.{get_or_from_slice_get}
use Rattle.lb_trace.specs.declared.trace.Header.{Header}
use Rattle.lb_trace.specs.declared.trace.Row.{Row}
use Rattle.lb_trace.specs.declared.trace.Trace.{Trace}
use Rattle.lb_trace.specs.Accepted.{is_row, IsTrace}
use Rattle.lb_core.specs.declared.course.Course.{Course}
use Rattle.lb_core.specs.declared.course.Form.{Form}
use Rattle.lb_core.specs.declared.course.Form.TheVariants.{Rest}
use Rattle.lb_core.specs.declared.entry.What.{What}
use Rattle.lb_core.specs.declared.entry.What.TheVariants.{Row as RowEntry, End, Out}
use Rattle.lb_core.specs.declared.entry.Entry.{Entry}
use Rattle.lb_core.specs.Stage.{draws}
use Rattle.lb_core.specs.CourseAfter.{course_after}
use Rattle.lb_core.specs.Elsewhere.{is_rest}
use Rattle.lb_core.specs.Machine.{MachineState, no_course, sight}
use Rattle.lb_core.specs.Step.{after, ended_after}
use Rattle.lb_core.specs.OfTrace.{row_of, rows_drawn}
use Rattle.lb_core.proofs.Headers.{all_index}
use Rattle.lb_core.proofs.Placing.{lane_there, form_lets}
use Rattle.lb_core.proofs.AtWork.{clash, RestRows, OneAtWork, works, comes_at_rest}
use Rattle.lb_ready.specs.Laws.{is_at_rest, OthersRest}
use Rattle.lb_ready.specs.Next.{Takes, IsSerialNext}
use Rattle.lb_serial.specs.declared.run.Run.{Run}
use Rattle.lb_serial.specs.Fronts.{with_entry, most_entries, IsAtRest, IsServing, IsClosing}
use Rattle.lb_serial.proofs.Next.{Next, next}

-- ---- the lane at work
one_lane : (m : MachineState) (lane : ℕ) → OthersRest m lane → OneAtWork m
one_lane m lane others = record { one = λ l k a b. is_lane l a ∙ sym (is_lane k b) }
  where
    is_lane : (l : ℕ) → is_at_rest m l ≡ false → l ≡ lane
    is_lane l a = elim (cases_eq l lane) [ inl e ↦ e | inr n ↦ clash _ (others l n) a ]

-- its entry takes up no row, and does not end the history
quiet : (f : Form) (h : Header) (c : Course) (q : _) (lane : ℕ) (w : What) → draws f h c q lane w ≡ true
    → is_rest f ≡ false → (row_of w lane ≡ []) × ((b : Bool) → ended_after w b ≡ b)
unfolding draws
quiet Rest h c q lane w d r = absurd (let y : ⊥ = cc in y)
quiet f h c q lane (RowEntry n at command) d r = absurd (let y : ⊥ = cc in y)
quiet f h c q lane (End unserved) d r = absurd (let y : ⊥ = cc in y)
quiet f h c q lane w d r = (refl, λ b. refl)

-- only the course of its lane changes
others_stay : (m : MachineState) (e : Entry) (lane : ℕ) → e.lane ≡ lane → OthersRest m lane → OthersRest (after m e) lane
unfolding after
others_stay m e lane own others l n =
    let same = get_or-set_other m.courses e.lane l (course_after (sight m e) e) no_course (λ i. n (i ∙ own)) in
    ap (λ (c : Course). is_rest c.form) same ∙ others l n

stays_there : (m : MachineState) (e : Entry) (lane : ℕ) → lane < length m.courses → lane < length (after m e).courses
unfolding after
stays_there m e lane lt = let k = length-set m.courses e.lane (course_after (sight m e) e) in omega arith

all_rest : (m : MachineState) (lane : ℕ) → is_at_rest m lane ≡ true → OthersRest m lane → (l : ℕ) → is_at_rest m l ≡ true
all_rest m lane r others l = elim (cases_eq l lane) [ inl e ↦ rw e r | inr n ↦ others l n ]

-- ---- the row that a lane at rest takes up
takes_it : (f : Form) (row : Option Row) (lane : ℕ) (w : What) → (is_rest f ≡ true → row_of w lane ≡ option_to_list row)
    → Takes f row lane w
takes_it Rest row lane w k = k refl
takes_it f row lane w k = tt

-- the rows of an accepted trace are accepted
pub accepts : (t : Trace) (i : ℕ) (r : Row) → IsTrace t → slice_get t.rows i ≡ Some r → i < length t.rows
    → is_row t.header r ≡ true
accepts t i r k e lt = subst (λ (x : Row). is_row t.header x ≡ true) (get_or_from_slice_get t.rows i r r e)
    (all_index (is_row t.header) t.rows k.rows i r lt)

-- ---- what a draw does
-- fewer entries are left than before
abbrev pub FewerLeft : Trace → Run → Run → Type 0
FewerLeft t old new = most_entries t - length new.history.entries < most_entries t - length old.history.entries

fewer_left : (t : Trace) (old : Run) (e : Entry) → length old.history.entries < most_entries t
    → FewerLeft t old (with_entry old e)
fewer_left t old e lt = let n = length-append old.history.entries (e ∷ []) in omega arith

-- the entry that the lane draws, and where the run stands then
pub record Draw (t : Trace) (lane : ℕ) (row : Option Row) (Then : Run → Type 0) (old : Run) : Type 0 where
  pub entry : Entry
  pub there : lane < length old.state.courses
  pub drawn : IsSerialNext old.state lane row entry
  pub stands : Then (with_entry old entry)
  pub fewer : FewerLeft t old (with_entry old entry)

-- so it stands with the run that a draw leaves
pub after_draw : (t : Trace) (lane : ℕ) (row : Option Row) (Then : Run → Type 0) (old new : Run) → Draw t lane row Then old
    → ((e : Entry) → IsSerialNext old.state lane row e → new ≡ with_entry old e) → Then new × FewerLeft t old new
after_draw t lane row Then old new w drawn =
    let same = drawn w.entry w.drawn in
    (subst Then (sym same) w.stands, subst (λ (r : Run). FewerLeft t old r) (sym same) w.fewer)

-- ---- between two rows
row_comes : (w : What) (lane : ℕ) (later : List Row) (r : Row) (rs : List Row) → RestRows w lane later
    → row_of w lane ++ later ≡ r ∷ rs → (lane ≡ r.lane) × (row_of w lane ≡ r ∷ []) × (later ≡ rs) ×
    ((b : Bool) → ended_after w b ≡ b)
row_comes (RowEntry n at command) lane later r rs k e =
    let first : Row = record { lane = lane; at = at; command = command } in
    let whole : first ∷ later ≡ r ∷ rs = e in
    let same : first ≡ r = cc in
    (ap (λ (x : Row). x.lane) same, ap (λ (x : Row). x ∷ []) same, let rest : later ≡ rs = cc in rest, λ b. refl)
row_comes (Out cause to ids) lane later r rs k e = let n = k.1 in absurd (let y : ⊥ = cc in y)
row_comes (End unserved) lane later r rs k e = let n = k.1 in absurd (let y : ⊥ = cc in y)
row_comes w lane later r rs k e = absurd k

-- the row that is next is taken up
takes_up : (t : Trace) (r : Row) (rs : List Row) (old : Run) → IsAtRest t (r ∷ rs) old
    → Draw t r.lane (Some r) (IsServing t r.lane rs) old
unfolding after
takes_up t r rs old k =
    let n = next t (r ∷ rs) old k.front k.live in
    let e = n.entry in
    let c = comes_at_rest old.state e n.later n.may n.follows n.serial (k.rest e.lane) in
    let w = row_comes e.what e.lane (rows_drawn n.later) r rs c.comes n.to_come in
    let there = subst (λ (l : ℕ). l < length old.state.courses) w.0 (lane_there old.state e n.may) in
    record {
      entry = e;
      there = there;
      drawn = record {
        own = w.0;
        may = n.may;
        serial = n.serial;
        takes = takes_it _ (Some r) r.lane e.what (λ _. subst (λ (l : ℕ). row_of e.what l ≡ r ∷ []) w.0 w.1);
      };
      stands = record {
        front = n.front rs w.2;
        live = w.3 old.state.ended ∙ k.live;
        there = stays_there old.state e r.lane there;
        others = others_stay old.state e r.lane w.0 (λ l _. k.rest l);
      };
      fewer = fewer_left t old e n.fewer;
    }

next_row : (rows : List Row) (i : ℕ) (r : Row) → slice_get rows i ≡ Some r → i < length rows
    → drop i rows ≡ r ∷ drop (i + 1) rows
next_row rows i r e lt = rw (add-one, drop-cons rows i r)
    (ap (λ (x : Row). x ∷ drop (suc i) rows) (get_or_from_slice_get rows i r r e))

-- so for the row at a place of the trace
pub takes_up_at : (t : Trace) (i : ℕ) (r : Row) (old : Run) → slice_get t.rows i ≡ Some r → i < length t.rows
    → IsAtRest t (drop i t.rows) old → Draw t r.lane (Some r) (IsServing t r.lane (drop (i + 1) t.rows)) old
takes_up_at t i r old e lt k = takes_up t r (drop (i + 1) t.rows) old
    (subst (λ (rows : List Row). IsAtRest t rows old) (next_row t.rows i r e lt) k)

-- ---- the service of a row
-- the lane goes on
pub serves_on : (t : Trace) (lane : ℕ) (rows : List Row) (old : Run) → IsServing t lane rows old
    → is_at_rest old.state lane ≡ false → Draw t lane None (IsServing t lane rows) old
unfolding after
serves_on t lane rows old k busy =
    let n = next t rows old k.front k.live in
    let e = n.entry in
    let own : e.lane ≡ lane = works old.state e n.may n.serial (one_lane old.state lane k.others) lane busy in
    let w = quiet _ _ _ _ e.lane e.what (form_lets old.state e n.may).1 (ap (is_at_rest old.state) own ∙ busy) in
    record {
      entry = e;
      there = k.there;
      drawn = record { own = own; may = n.may; serial = n.serial; takes = takes_it _ None lane e.what (λ r. clash _ r busy) };
      stands = record {
        front = n.front rows (subst (λ (xs : List Row). xs ++ rows_drawn n.later ≡ rows) w.0 n.to_come);
        live = w.1 old.state.ended ∙ k.live;
        there = stays_there old.state e lane k.there;
        others = others_stay old.state e lane own k.others;
      };
      fewer = fewer_left t old e n.fewer;
    }

-- ---- from the last row on
closing_comes : (w : What) (lane : ℕ) (later : List Row) → RestRows w lane later → row_of w lane ++ later ≡ [] → lane ≡ 0
closing_comes (RowEntry n at command) lane later k e = absurd (let y : ⊥ = cc in y)
closing_comes (Out cause to ids) lane later k e = k.0
closing_comes (End unserved) lane later k e = k.0
closing_comes w lane later k e = absurd k

none_left : (w : What) (lane : ℕ) (later : List Row) → row_of w lane ++ later ≡ [] → (row_of w lane ≡ []) × (later ≡ [])
none_left (RowEntry n at command) lane later e = absurd (let y : ⊥ = cc in y)
none_left w lane later e = (refl, e)

-- lane 0 goes on closing the history
pub closes_on : (t : Trace) (old : Run) → IsClosing t old → old.state.ended ≡ false → Draw t 0 None (IsClosing t) old
closes_on t old k live =
    let n = next t [] old k.front live in
    let e = n.entry in
    let own = of_lane_0 n (is_at_rest old.state 0) refl in
    let w = none_left e.what e.lane (rows_drawn n.later) n.to_come in
    record {
      entry = e;
      there = subst (λ (l : ℕ). l < length old.state.courses) own (lane_there old.state e n.may);
      drawn = record {
        own = own;
        may = n.may;
        serial = n.serial;
        takes = takes_it _ None 0 e.what
            (λ _. subst (λ (l : ℕ). row_of e.what l ≡ []) own w.0);
      };
      stands = record { front = n.front [] w.1; others = others_stay old.state e 0 own k.others };
      fewer = fewer_left t old e n.fewer;
    }
  where
    of_lane_0 : (n : Next t [] old) (b : Bool) → is_at_rest old.state 0 ≡ b → n.entry.lane ≡ 0
    of_lane_0 n true r =
        let c = comes_at_rest old.state n.entry n.later n.may n.follows n.serial (all_rest old.state 0 r k.others n.entry.lane) in
        closing_comes n.entry.what n.entry.lane (rows_drawn n.later) c.comes n.to_come
    of_lane_0 n false r = works old.state n.entry n.may n.serial (one_lane old.state 0 k.others) 0 r
