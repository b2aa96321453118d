-- For `replies` of src/laws.rt: in a legal history each row has the next number of its lane, from 1, and its
-- reply: the lane's next entry, drawn by the queue where the row's task stands, or whose CPU it ticks, or by
-- the publisher, with the value that the queue then answers, or with the next version.
use Rattle.lb_core.proofs.Replies.{replies_always, next_always}
use Rattle.lb_core.proofs.laws.replies.Goals as goal

pub returns-clause-replied : goal.returns-clause-replied
returns-clause-replied c = replies_always (record { rest = c.calls_keep_rest.ensures; order = c.domains_stand_in_order.ensures })

pub returns-clause-goes_on : goal.returns-clause-goes_on
returns-clause-goes_on c = next_always
