-- The last entry of a legal history is the end.
-- For the law `end_is_last`.
use Rattle.std.proofs.Common.{◌≡◌, Bool, true, false, List, [], ◌∷◌, refl, ap, inl, inr}
use Rattle.std.proofs.lemmas.Bool.{cases_Bool}
use Rattle.lb_core.specs.declared.entry.Entry.{Entry}
use Rattle.lb_core.specs.declared.entry.What.{What}
use Rattle.lb_core.specs.declared.entry.What.TheVariants.{End}
use Rattle.lb_core.specs.Machine.{MachineState, start}
use Rattle.lb_core.specs.Step.{after, ended_after}
use Rattle.lb_core.specs.Legal.{run, MayFollow}
use Rattle.lb_core.proofs.AtWork.{clash, nothing_follows}
use Rattle.lb_audit.specs.Laws.{IsEnd, EndsWithEnd, EndIsLast}

ended_by : (w : What) (ended : Bool) → ended_after w ended ≡ true → ended ≡ false → IsEnd w
ended_by (End unserved) ended h k = tt
ended_by w ended h k = clash ended h k

ends : (entries : List Entry) (m : MachineState) → m.ended ≡ false → MayFollow entries m → (run entries m).ended ≡ true
    → EndsWithEnd entries
unfolding after
ends [] m live may over = clash m.ended over live
ends (e ∷ entries) m live may over =
    elim (cases_Bool (after m e).ended) [
      | inl ended ↦ record {
        before = [];
        last = e;
        all = ap (λ (es : List Entry). e ∷ es) (nothing_follows entries (after m e) ended may.1);
        is_end = ended_by e.what m.ended ended live;
      }
      | inr goes ↦
          let r : EndsWithEnd entries = ends entries (after m e) goes may.1 over in
          record { before = e ∷ r.before; last = r.last; all = ap (λ (es : List Entry). e ∷ es) r.all; is_end = r.is_end }
    ]

pub end_is_last : EndIsLast
unfolding start
end_is_last h entries legal = ends entries (start h) refl legal.0 legal.1
