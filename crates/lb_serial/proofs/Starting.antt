-- Where nothing is drawn yet, all lanes rest and each row is to come: every accepted trace has a serial
-- history, and that is as short as histories of the trace are.
-- For `serial`.
use Rattle.std.proofs.Common.{◌≡◌, refl, sym, subst}
use Rattle.lb_trace.specs.declared.trace.Header.{Header}
use Rattle.lb_trace.specs.declared.trace.Trace.{Trace}
use Rattle.lb_trace.specs.Accepted.{IsTrace}
use Rattle.lb_core.specs.Machine.{start}
use Rattle.lb_core.specs.Serial.{IsSerialHistory}
use Rattle.lb_core.proofs.AtWork.{opening_rests}
use Rattle.lb_ready.specs.Laws.{TracesHaveRuns, HistoriesEnd}
use Rattle.lb_serial.specs.declared.run.Run.{Run}
use Rattle.lb_serial.specs.Fronts.{opening, most_entries, IsAtRest}

pub starts : TracesHaveRuns → HistoriesEnd → (t : Trace) → IsTrace t → (r : Run) → r ≡ opening t.header → IsAtRest t t.rows r
unfolding start most_entries
starts runs ends t accepted r is =
    let found = runs t accepted in
    let h = found.0 in
    let s = found.1 in
    subst (λ (x : Run). IsAtRest t t.rows x) (sym is)
    (record {
      front = record {
        later = h.entries;
        whole = record {
          serial = subst (λ (x : Header). IsSerialHistory t (record { header = x; entries = h.entries })) s.of_trace.header s;
          few = ends t h accepted s.of_trace;
        };
        leaves = refl;
        header = refl;
        to_come = s.file_order;
      };
      live = refl;
      rest = λ lane. opening_rests t.header lane;
    })
