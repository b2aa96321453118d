-- The entry of the serial history that comes next after a front of it, where the history has not ended;
-- and that a front which has ended it is all of it.
-- For `serial`.
use Rattle.std.proofs.Common.{◌≡◌, ◌<◌, true, false, List, [], ◌∷◌, ◌++◌, length, sym, ◌∙◌, ap, subst, arith, append_assoc, append-nil, length-append}
use Rattle.lb_trace.specs.declared.trace.Header.{Header}
use Rattle.lb_trace.specs.declared.trace.Row.{Row}
use Rattle.lb_trace.specs.declared.trace.Trace.{Trace}
use Rattle.lb_core.specs.declared.entry.Entry.{Entry}
use Rattle.lb_core.specs.Machine.{MachineState, start}
use Rattle.lb_core.specs.Step.{after}
use Rattle.lb_core.specs.Legal.{MayBeAdded, MayFollow, run}
use Rattle.lb_core.specs.OfTrace.{row_of, rows_drawn}
use Rattle.lb_core.specs.Serial.{is_serial, AreSerial, IsSerialHistory}
use Rattle.lb_core.proofs.Next.{parts, run-append}
use Rattle.lb_core.proofs.AtWork.{clash, goes_on}
use Rattle.lb_serial.specs.declared.run.Run.{Run}
use Rattle.lb_serial.specs.Fronts.{with_entry, most_entries, IsWhole, IsFront}

serial_after : (es fs : List Entry) (m : MachineState) → AreSerial (es ++ fs) m → AreSerial fs (run es m)
serial_after [] fs m s = s
serial_after (e ∷ es) fs m s = serial_after es fs (after m e) s.1

-- a step leaves the header
same_header : (m : MachineState) (e : Entry) (h : Header) → m.header ≡ h → (after m e).header ≡ h
unfolding after
same_header m e h k = k

-- the next entry: it may be added, and is serial; with it, what was drawn is a front again
pub record Next (t : Trace) (rows : List Row) (r : Run) : Type 0 where
  pub entry : Entry
  pub may : MayBeAdded r.state entry
  pub serial : is_serial r.state entry.what ≡ true
  pub later : List Entry
  pub follows : MayFollow later (after r.state entry)
  pub to_come : row_of entry.what entry.lane ++ rows_drawn later ≡ rows
  pub front : (left : List Row) → rows_drawn later ≡ left → IsFront t left (with_entry r entry)
  pub fewer : length r.history.entries < most_entries t

pub next : (t : Trace) (rows : List Row) (r : Run) → IsFront t rows r → r.state.ended ≡ false → Next t rows r
next t rows r f live = by_later f.later f.whole f.to_come
  where
    by_later : (later : List Entry) → IsWhole t r.history.header (r.history.entries ++ later) → rows_drawn later ≡ rows
        → Next t rows r
    by_later [] w d =
        let ended : (run (r.history.entries ++ []) (start r.history.header)).ended ≡ true = w.serial.of_trace.legal.1 in
        let same : run (r.history.entries ++ []) (start r.history.header) ≡ r.state =
        ap (λ (es : List Entry). run es (start r.history.header)) (append-nil r.history.entries) ∙ f.leaves in
        clash r.state.ended (sym (ap (λ (m : MachineState). m.ended) same) ∙ ended) live
    by_later (e ∷ es) w d =
        let p = parts r.history.entries e es (start r.history.header) w.serial.of_trace.legal.0 in
        let s = serial_after r.history.entries (e ∷ es) (start r.history.header) w.serial.serial in
        record {
          entry = e;
          may = subst (λ (m : MachineState). MayBeAdded m e) f.leaves p.this;
          serial = subst (λ (m : MachineState). is_serial m e.what ≡ true) f.leaves s.0;
          later = es;
          follows = subst (λ (m : MachineState). MayFollow es (after m e)) f.leaves p.last;
          to_come = d;
          front = λ left k. record {
            later = es;
            whole = subst (λ (xs : List Entry). IsWhole t r.history.header xs)
                (sym (append_assoc r.history.entries (e ∷ []) es)) w;
            leaves = run-append r.history.entries (e ∷ []) (start r.history.header)
                ∙ ap (λ (m : MachineState). after m e) f.leaves;
            header = same_header r.state e t.header f.header;
            to_come = k;
          };
          fewer = let n = length-append r.history.entries (e ∷ es) in let k = w.few in omega arith;
        }

-- nothing follows the end
pub all_drawn : (t : Trace) (rows : List Row) (r : Run) → IsFront t rows r → r.state.ended ≡ true → IsSerialHistory t r.history
all_drawn t rows r f over = by_later f.later f.whole
  where
    by_later : (later : List Entry) → IsWhole t r.history.header (r.history.entries ++ later) → IsSerialHistory t r.history
    by_later [] w = subst (λ (xs : List Entry). IsSerialHistory t
        (record { header = r.history.header; entries = xs })) (append-nil r.history.entries) w.serial
    by_later (e ∷ es) w =
        let p = parts r.history.entries e es (start r.history.header) w.serial.of_trace.legal.0 in
        clash r.state.ended over (goes_on r.state e (subst (λ (m : MachineState). MayBeAdded m e) f.leaves p.this))
