-- A history as the lists of its owners: each entry with its ticket and with what its owner knew of it, which
-- the run of the machine gives. And lists merged: the entry of each ticket at its place.
-- Cited by the laws `merged_back`, `header_and_masks`, `undeclared_lane` and others.
use Rattle.std.specs.Prelude.{ℕ, ◌+◌, ◌==◌, None, List, [], ◌∷◌, length, map, filter, replicate}
use Rattle.std.specs.List.{range_with_len}
use Rattle.lb_core.specs.declared.entry.Entry.{Entry}
use Rattle.lb_core.specs.declared.history.History.{History}
use Rattle.lb_core.specs.CourseAfter.{course_after}
use Rattle.lb_core.specs.Machine.{MachineState, course_at, masks_for, figs_for, start, sight}
use Rattle.lb_core.specs.Step.{after}
use Rattle.lb_ticket.specs.declared.item.Drawn.{Drawn}
use Rattle.lb_journal.specs.Journal.{Journal, number_of}
use Rattle.lb_journal.specs.Ordering.{placed_lists, somes, total_length}

-- the item of an entry of this machine
abbrev pub item_of : MachineState → Entry → Journal
item_of m e = record {
  header = m.header;
  entry = e;
  course = course_at m.courses e.lane;
  after = course_after (sight m e) e;
  masks = masks_for e.what m;
  figs = figs_for e.what m;
}

-- the items from the ticket n on
abbrev pub items_from : ℕ → MachineState → List Entry → List (Drawn Journal)
items_from n m [] = []
items_from n m (e ∷ es) = record { ticket = n; item = item_of m e } ∷ items_from (n + 1) (after m e) es

-- the list of each owner: the publisher, 16 lanes, and the queues
abbrev pub by_owner : History → List (List (Drawn Journal))
by_owner history =
    let items = items_from 1 (start history.header) history.entries in
    map (λ k. filter (λ d. number_of d.item.entry.owner == k) items) (range_with_len 0 (17 + length history.header.cpus))

-- the entries of lists, each in the slot of its ticket
abbrev pub merged : List (List (Drawn Journal)) → List Entry
merged lists = somes (placed_lists lists (replicate (total_length lists) None))
