-- Which lane ticked each CPU, with one row more: as the reader keeps it, and as the list of rows says it.
-- For `Reading::tick_line`, `Reading::row_line`, `Reading::line_of` and `none_ticked`.
use Rattle.std.proofs.Common.{◌≡◌, ℕ, ◌<◌, ◌==◌, Bool, true, false, not, ◌&&◌, ◌||◌, List, [], ◌∷◌, ◌++◌, length, length-set, Option, Some, None, OnOk, Ok, Err, inl, inr, refl, sym, ap, subst, ◌∙◌, arith}
use Rattle.std.specs.Prelude.{Result}
use Rattle.std.specs.List.{slice_index_or, slice_set, list_any}
use Rattle.std.proofs.lemmas.Bool.{cases_eq, eqb-true, eq-eqb, ne_eqb, not-false}
use Rattle.std.proofs.lemmas.List.{get_or-set_other, get_or-replicate, length-replicate}
use Rattle.std.proofs.Math.ListN.{replicate}
use Rattle.std.proofs.lemmas.Grind.{get_or-set_at}
use Rattle.std.proofs.lemmas.List.Folds.{list_any-append}
use Rattle.lb_trace.specs.declared.trace.Command.TheVariants as commands
use Rattle.lb_trace.specs.declared.trace.Row.{Row}
use Rattle.lb_trace.specs.declared.line_error.LineError.{LineError}
use Rattle.lb_trace.specs.declared.kind.LineKind.{LineKind}
use Rattle.lb_trace.specs.declared.kind.LineKind.TheVariants as kinds
use Rattle.lb_trace.specs.declared.kind.RowKind.{RowKind}
use Rattle.lb_trace.specs.Values.{row_of}
use Rattle.lb_trace.specs.declared.reading.Reading.{Reading}
use Rattle.lb_trace.specs.Tests.{value_tests}
use Rattle.lb_trace.specs.Grammar.{after, TakesLine}
use Rattle.lb_trace.specs.Naming.{ticks_cpu, ticks_beside, is_ticked_beside}
use Rattle.lb_trace.specs.Ticked.{is_other, AreTicked}
use Rattle.lb_trace.proofs.FirstCode.{passes}

or-false : (b : Bool) → (b || false) ≡ b
or-false true = refl
or-false false = refl

beside_with : (rows : List Row) (row : Row) (cpu lane : ℕ)
    → is_ticked_beside (rows ++ row ∷ []) cpu lane ≡ (is_ticked_beside rows cpu lane || ticks_beside cpu lane row)
unfolding is_ticked_beside
beside_with rows row cpu lane =
    list_any-append (ticks_beside cpu lane) rows (row ∷ [])
    ∙ ap (λ (b : Bool). list_any (ticks_beside cpu lane) rows || b) (or-false (ticks_beside cpu lane row))

-- a row that is no tick
no_tick : (rows : List Row) (row : Row) (ticked : List (Option ℕ)) → ((cpu : ℕ) → ticks_cpu cpu row.command ≡ false)
    → AreTicked rows ticked → AreTicked (rows ++ row ∷ []) ticked
no_tick rows row ticked none are cpu lane lt =
    beside_with rows row cpu lane ∙ (ap (λ (b : Bool). is_ticked_beside rows cpu lane ||
    (b && not (row.lane == lane))) (none cpu) ∙ (or-false (is_ticked_beside rows cpu lane) ∙ are cpu lane lt))

-- before the first row
pub none_ticked : (n : ℕ) → AreTicked [] (replicate n None)
unfolding is_ticked_beside
none_ticked n cpu lane lt =
    let none : Option ℕ = None in
    sym (ap (λ (o : Option ℕ). is_other o lane) (get_or-replicate n cpu none none (omega (arith, lt, length-replicate n none))))

-- where no other lane ticked the CPU, another than this lane is another than any that did
one_lane : (ticking : Option ℕ) (own lane : ℕ) → is_other ticking own ≡ false
    → (is_other ticking lane || not (own == lane)) ≡ not (own == lane)
one_lane None own lane e = refl
one_lane (Some first) own lane e =
    ap (λ (l : ℕ). not (l == lane) || not (own == lane)) (eqb-true first own (not-false (first == own) e)) ∙ both_or
    (not (own == lane))
  where
    both_or : (b : Bool) → (b || b) ≡ b
    both_or true = refl
    both_or false = refl

-- a tick
pub one_tick : (rows : List Row) (ticked : List (Option ℕ)) (cpu lane at : ℕ) → cpu < length ticked
    → AreTicked rows ticked → is_other (slice_index_or ticked cpu None) lane ≡ false
    → AreTicked (rows ++ record { lane = lane; at = at; command = commands.Tick cpu } ∷ []) (slice_set ticked cpu (Some lane))
one_tick rows ticked cpu lane at within are same other by lt =
    let row : Row = record { lane = lane; at = at; command = commands.Tick cpu } in
    let known = are other by (omega (arith, lt, length-set ticked cpu (Some lane))) in
    beside_with rows row other by ∙ elim (cases_eq cpu other) [
      | inl here ↦
          ap (λ (b : Bool). is_ticked_beside rows other by || (b && not (lane == by))) (eq-eqb cpu other here)
          ∙ (ap (λ (b : Bool). b || not (lane == by)) known
          ∙ (one_lane (slice_index_or ticked other None) lane by
          (ap (λ (k : ℕ). is_other (slice_index_or ticked k None) lane) (sym here) ∙ same)
          ∙ sym (ap (λ (o : Option ℕ). is_other o by) (get_or-set_at ticked cpu other (Some lane) None (sym here) within))))
      | inr there ↦
          ap (λ (b : Bool). is_ticked_beside rows other by || (b && not (lane == by))) (ne_eqb cpu other there)
          ∙ (or-false (is_ticked_beside rows other by)
          ∙ (known ∙ sym (ap (λ (o : Option ℕ). is_other o by)
          (get_or-set_other ticked cpu other (Some lane) None (λ e. there (sym e))))))
    ]

-- ---- a line more
-- where a good line would leave the lanes that tick, a step does
keeps : {A : Type 0} (kind : LineKind) (fields : List (List ℕ)) (old new : Reading) (ticked : List (Option ℕ))
    (result : Result A LineError)
    → AreTicked (after old kind fields).rows ticked → TakesLine kind fields old new result
    → OnOk result (AreTicked new.rows ticked)
keeps kind fields old new ticked (Ok a) are step =
    subst (λ (read : Reading). AreTicked read.rows ticked)
    (sym (passes (value_tests old kind fields) (after old kind fields) new step).same) are
keeps kind fields old new ticked (Err e) are step = tt

-- a line of the header
abbrev pub is_row_kind : LineKind → Bool
is_row_kind (kinds.Row kind) = true
is_row_kind kind = false

pub keeps_above : {A : Type 0} (kind : LineKind) (fields : List (List ℕ)) (old new : Reading)
    (ticked : List (Option ℕ)) (result : Result A LineError)
    → is_row_kind kind ≡ false → AreTicked old.rows ticked → TakesLine kind fields old new result
    → OnOk result (AreTicked new.rows ticked)
keeps_above kinds.Version fields old new ticked result other are step = keeps kinds.Version fields old new ticked result are step
keeps_above kinds.Cpu fields old new ticked result other are step = keeps kinds.Cpu fields old new ticked result are step
keeps_above kinds.Dist fields old new ticked result other are step = keeps kinds.Dist fields old new ticked result are step
keeps_above kinds.Parts fields old new ticked result other are step = keeps kinds.Parts fields old new ticked result are step
keeps_above kinds.Lanes fields old new ticked result other are step = keeps kinds.Lanes fields old new ticked result are step
keeps_above kinds.Task fields old new ticked result other are step = keeps kinds.Task fields old new ticked result are step
keeps_above (kinds.Row kind) fields old new ticked result other are step = absurd (cc)

-- a row that is no tick
pub keeps_beside : {A : Type 0} (kind : RowKind) (fields : List (List ℕ)) (old new : Reading)
    (ticked : List (Option ℕ)) (result : Result A LineError)
    → ((cpu : ℕ) → ticks_cpu cpu (row_of kind fields).command ≡ false) → AreTicked old.rows ticked
    → TakesLine (kinds.Row kind) fields old new result
    → OnOk result (AreTicked new.rows ticked)
keeps_beside kind fields old new ticked result none are step =
    keeps (kinds.Row kind) fields old new ticked result (no_tick old.rows (row_of kind fields) ticked none are) step
