-- What is kept of each entry of a queue is what the merge asks of its owner.
-- For the law `plain_is_kept`.
use Rattle.std.proofs.Common.{ℕ, ◌≡◌, true, List, get_or, sym, subst, All}
use Rattle.std.proofs.lemmas.List.Elements.{All-nil}
use base.Stored.{Coded}
use Rattle.lb_trace.specs.declared.trace.Header.{Header}
use Rattle.lb_core.specs.declared.entry.CpuFig.{CpuFig}
use Rattle.lb_core.specs.declared.entry.What.{What}
use Rattle.lb_core.specs.declared.entry.What.TheVariants as whats
use Rattle.lb_ticket.specs.declared.view.Held.{Held}
use Rattle.lb_ticket.specs.declared.item.Drawn.{Drawn}
use Rattle.lb_journal.specs.Journal.{Journal}
use Rattle.lb_journal.specs.Owners.{UsesVersion, ReadsFigure}
use Rattle.lb_cell.specs.Kinds.{is_of_queue}
use Rattle.lb_cell.specs.Reads.{PlainIsKept}

no_version : (h : Header) (code : Coded Journal) (read : List Held) (ticket : ℕ) (j : Journal) (w : What) → is_of_queue w ≡ true
    → UsesVersion h code read ticket j w
no_version h code read ticket j (whats.Did r) e = tt
no_version h code read ticket j (whats.Out cause to list) e = tt
no_version h code read ticket j (whats.Landed list) e = tt
no_version h code read ticket j (whats.Turn ps) e = tt
no_version h code read ticket j whats.Shut e = tt
no_version h code read ticket j (whats.Close p w i f) e = tt
no_version h code read ticket j (whats.Ask r) e = tt
no_version h code read ticket j (whats.Kick r) e = tt
no_version h code read ticket j whats.Over e = tt
no_version h code read ticket j (whats.Row n at command) e = tt
no_version h code read ticket j (whats.Adopt v k c) e = absurd (cc e)
no_version h code read ticket j (whats.Look p x fs d) e = tt
no_version h code read ticket j (whats.Scan fs t) e = tt
no_version h code read ticket j (whats.End u) e = tt
no_version h code read ticket j (whats.Pub v) e = tt

pub plain_kept : PlainIsKept
plain_kept h code lists s plain = (
  λ i d lt. (plain i d lt).header,
  λ i d lt.
      let e : Drawn Journal = get_or s.list i d in
      no_version h code s.read e.ticket e.item e.item.entry.what (plain i d lt).of_queue,
  λ i d lt.
      let e : Drawn Journal = get_or s.list i d in
      let reads : CpuFig → Type 0 = ReadsFigure h lists e.ticket in
      subst (All reads) (sym (plain i d lt).figs) (All-nil reads),
)
