-- For `two_lanes` of src/machine.rt: two lanes serve a row each, on two threads: the replies, and the closed
-- lists.
use denote.Param.Send.{IsSend, IsSync, arg_send, arg_sync, param_send, param_sync, recorded_send, recorded_sync, shr_send, struct_send}
use denote.Param.{param}
use Rattle.std.proofs.Crossing.{send as alloc_send}
use Rattle.lb_queue.proofs.answers.Reply.TheSendSync as reply
use Rattle.lb_trace.proofs.trace.Row.TheSendSync as row
use Rattle.lb_lane_laws.proofs.Crossing.{cpus_sync, lane_send}
use Rattle.lb_thread_tests.proofs.machine.two_lanes.Goals as goal

-- what goes to a lane's thread: the handle, the allocator, the machine, the lane and its row
ruleset crossing = (
  tt,
  param_send,
  param_sync,
  arg_send,
  arg_sync,
  recorded_send,
  recorded_sync,
  struct_send,
  shr_send,
  alloc_send,
  reply.the_send,
  row.the_sync,
  lane_send,
  cpus_sync,
)

pub join-first-requires-send-F : goal.join-first-requires-send-F
join-first-requires-send-F g c κs within =
    let names : IsSend (param 0 g.row.N) = c.type_bounds.send-N in
    let handle : IsSync (param 1 g.row.R) = c.type_bounds.sync-R in
    search crossing depth 40

pub join-first-requires-send-A : goal.join-first-requires-send-A
join-first-requires-send-A g c κs within =
    let names : IsSend (param 0 g.row.N) = c.type_bounds.send-N in
    search crossing depth 40
