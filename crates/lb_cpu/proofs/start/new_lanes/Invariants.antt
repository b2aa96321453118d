-- The loops of `new_lanes` of src/start.rt: the lanes before any entry, in order.
use Rattle.std.proofs.Common.{◌≡◌, ◌+◌, ◌≤◌, ◌++◌, length, map, vec_capacity}
use Rattle.std.specs.Vec.Iter.{into_iter_items, into_iter_len}
use Rattle.lb_cpu.specs.Blanks.{FitLanes}
use Rattle.lb_cpu.specs.Numbering.{EachFrom}
use Rattle.lb_cpu.specs.Starts.{IsNew}
use Rattle.lb_cpu.proofs.start.new_lanes.Given as goal

abbrev pub invariant-loop-own : goal.invariant-loop-own
invariant-loop-own g l = record {
  rest : FitLanes g.N.Names.header g.N.Names.book g.N.Names.board g.N.Versions.versions (length l.lanes.items)
      (into_iter_items l.own-iterator) (into_iter_items l.seats) (into_iter_items l.readers) (into_iter_items l.lookers);
  new : EachFrom (IsNew g.N.Names.header) 0 l.lanes.items;
  rows : map (λ x. x.rows) l.lanes.items ++ into_iter_items l.own-iterator ≡ l.fn.parts.rows.items;
  count : length l.lanes.items + length (into_iter_items l.own-iterator) ≡ length l.fn.parts.rows.items;
  rows_left : into_iter_len l.own-iterator ≡ length (into_iter_items l.own-iterator);
  seats_left : into_iter_len l.seats ≡ length (into_iter_items l.seats);
  readers_left : into_iter_len l.readers ≡ length (into_iter_items l.readers);
  lookers_left : into_iter_len l.lookers ≡ length (into_iter_items l.lookers);
  room : length l.fn.parts.rows.items ≤ vec_capacity l.lanes;
}
