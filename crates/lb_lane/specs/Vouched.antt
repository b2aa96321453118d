-- What a lane knows of the versions that it has seen: of the first so many of them it knows that each shows the domains
-- of its masks, and that these are the header's, or those that a `pub` published which it has read.
-- For the definitions of `Lanes`, and so for `Lane::end`, `Lane::keeps` and others.
use Rattle.std.specs.Prelude.{ℕ, ◌≡◌, ◌-◌, ◌≤◌, ◌⊎◌, List, Some, slice_get}
use base.Stored.{Coded}
use Rattle.lb_base.specs.declared.mask.Mask.{Mask}
use Rattle.lb_domain.specs.Topologies.{DomainsWithin, domains_within}
use Rattle.lb_trace.specs.declared.trace.Header.{Header}
use Rattle.lb_core.specs.declared.entry.Owner.TheVariants.{Publisher}
use Rattle.lb_core.specs.declared.entry.What.TheVariants.{Pub}
use Rattle.lb_ticket.specs.declared.item.Drawn.{Drawn}
use Rattle.lb_ticket.specs.declared.view.Held.{Held}
use Rattle.lb_ticket.specs.Facts.{HasRead}
use Rattle.lb_journal.specs.Journal.{Journal}
use Rattle.lb_journal.specs.Merge.{parts_of}

-- a `pub` of the version was read, with a ticket below `next`, which served a command with these masks
pub record PubRead (code : Coded Journal) (read : List Held) (next : ℕ) (masks : List Mask) (v : ℕ) : Type 0 where
  pub publ : Drawn Journal
  pub here : HasRead code read next publ
  pub owner : publ.item.entry.owner ≡ Publisher
  pub is : publ.item.entry.what ≡ Pub v
  pub masks_are : masks ≡ parts_of publ.item.course.command

-- where a version's masks are from
abbrev pub Source : Header → Coded Journal → List Held → ℕ → List Mask → ℕ → Type 0
Source h code read next masks v = ((v ≡ 1) × (masks ≡ h.parts)) ⊎ PubRead code read next masks v

pub record IsVouched (h : Header) (code : Coded Journal) (read : List Held) (next : ℕ) (topologies : List DomainsWithin) (v : ℕ)
    : Type 0 where
  pub masks : List Mask
  pub shown : slice_get topologies (v - 1) ≡ Some (domains_within h.cpus h.distances masks)
  pub source : Source h code read next masks v

-- so of each of the first n versions
abbrev pub Vouches : Header → Coded Journal → List Held → ℕ → List DomainsWithin → ℕ → Type 0
Vouches h code read next topologies n = (v : ℕ) → 1 ≤ v → v ≤ n → IsVouched h code read next topologies v
