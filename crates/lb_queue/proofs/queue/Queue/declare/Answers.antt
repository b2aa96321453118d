-- For `Queue::declare` of src/queue.rt: declares a task: it sleeps here.
use Rattle.std.proofs.Common.{◌≡◌, sym, subst, false}
use Rattle.lb_queue.specs.contracts.queue.Queue.{the_view}
use Rattle.lb_queue.specs.declared.record.TaskRecord.{TaskRecord}
use Rattle.lb_queue.specs.Queue.{BookedQueue, knows}
use Rattle.lb_queue.specs.Lists.{Lists, IsUnknown}
use Rattle.lb_queue.proofs.Replies.{unknown_where}
use Rattle.lb_queue.proofs.queue.Queue.declare.Goals as goal

pub add_asleep-requires-clause-unknown : goal.add_asleep-requires-clause-unknown
add_asleep-requires-clause-unknown c =
    let not_known = subst (λ (b : BookedQueue). knows b.state c.args.id ≡ false) (sym c.self.view_is) c.requires.unknown in
    let here : IsUnknown c.self.inside.lists c.args.id = unknown_where (the_view c.self.inside).state c.args.id not_known in
    let there : IsUnknown c.make_room.new.self c.args.id =
    subst (λ (l : Lists). IsUnknown l c.args.id) (sym c.make_room.ensures.lists) here in
    subst (λ (t : TaskRecord). IsUnknown c.make_room.new.self t.id) (sym c.new.ensures) there
