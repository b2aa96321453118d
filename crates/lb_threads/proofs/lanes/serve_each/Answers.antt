-- For `serve_each` of src/lanes.rt: each lane serves its rows, on a thread of its own.
use denote.Exit.{yes}
use denote.Param.Send.{IsSend, arg_send, arg_sync, param_send, param_sync, recorded_sync, shr_sync, struct_sync}
use denote.Param.{param}
use Rattle.std.proofs.Crossing.{sync as alloc_sync}
use Rattle.lb_trace.proofs.trace.Trace.TheSendSync as trace
use Rattle.lb_lane_laws.proofs.Crossing.{cpus_sync, lane_send}
use Rattle.lb_threads.proofs.lanes.serve_each.Goals as goal

-- what the lanes' threads share: the handle and the gate, the allocator, the trace and the queues
ruleset shared = (tt, param_sync, arg_sync, recorded_sync, struct_sync, shr_sync, alloc_sync, trace.the_sync, cpus_sync)

-- a lane may go to its thread
pub for_each_mut-requires-send-T : goal.for_each_mut-requires-send-T
for_each_mut-requires-send-T g c κs within =
    let names : IsSend (param 0 g.row.N) = c.type_bounds.send-N in
    param_send 1 _ (arg_send _ yes _ (lane_send (param 0 g.row.N) g.N.Names names g.N.Versions))

-- and all else is shared
pub for_each_mut-requires-sync-F : goal.for_each_mut-requires-sync-F
for_each_mut-requires-sync-F g c κs within = search shared depth 40
