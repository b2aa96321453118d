-- What a lane knows of versions stays as it reads, marks and sees more.
-- For the lemmas of `Choosing`, `Drawing` and other files, and so for `Lane::choose`, `PublisherCell::vouch` and
-- others.
use Rattle.std.proofs.Common.{ℕ, ◌-◌, ◌≤◌, ◌++◌, List, arith, inl, inr}
use base.Stored.{Coded}
use mathlib.Core.List.{IsPrefix}
use Rattle.lb_base.specs.declared.mask.Mask.{Mask}
use Rattle.lb_domain.specs.Topologies.{DomainsWithin, domains_within}
use Rattle.lb_trace.specs.declared.trace.Header.{Header}
use Rattle.lb_ticket.specs.declared.view.Held.{Held}
use Rattle.lb_journal.specs.Journal.{Journal}
use Rattle.lb_ticket.specs.Facts.{held_of}
use Rattle.lb_ticket.proofs.Members.{has_either}
use Rattle.lb_seen.proofs.Beginnings.{prefix_get}
use Rattle.lb_lane.specs.Vouched.{Source, Vouches}

source_on : (h : Header) (code : Coded Journal) (read : List Held) (next next' : ℕ) (masks : List Mask) (v : ℕ) → next ≤ next'
    → Source h code read next masks v → Source h code read next' masks v
source_on h code read next next' masks v le (inl first) = inl first
source_on h code read next next' masks v le (inr p) = inr (record {
  publ = p.publ;
  here = record { read_it = p.here.read_it; before = let b = p.here.before in omega (arith, b, le) };
  owner = p.owner;
  is = p.is;
  masks_are = p.masks_are;
})

source_read : (h : Header) (code : Coded Journal) (read more : List Held) (next next' : ℕ) (masks : List Mask) (v : ℕ)
    → next ≤ next' → Source h code read next masks v → Source h code (read ++ more) next' masks v
source_read h code read more next next' masks v le (inl first) = inl first
source_read h code read more next next' masks v le (inr p) = inr (record {
  publ = p.publ;
  here = record {
    read_it = has_either read more (held_of code p.publ) (inl p.here.read_it);
    before = let b = p.here.before in omega (arith, b, le);
  };
  owner = p.owner;
  is = p.is;
  masks_are = p.masks_are;
})

pub vouches_on : (h : Header) (code : Coded Journal) (read : List Held) (next next' : ℕ) (topologies : List DomainsWithin) (n : ℕ)
    → next ≤ next' → Vouches h code read next topologies n → Vouches h code read next' topologies n
vouches_on h code read next next' topologies n le all = λ v one here.
    let x = all v one here in
    record { masks = x.masks; shown = x.shown; source = source_on h code read next next' x.masks v le x.source }

-- more was read
pub vouches_read : (h : Header) (code : Coded Journal) (read more : List Held) (next next' : ℕ) (topologies : List DomainsWithin)
    (n : ℕ) → next ≤ next' → Vouches h code read next topologies n → Vouches h code (read ++ more) next' topologies n
vouches_read h code read more next next' topologies n le all = λ v one here.
    let x = all v one here in
    record { masks = x.masks; shown = x.shown; source = source_read h code read more next next' x.masks v le x.source }

-- more versions were seen
pub vouches_more : (h : Header) (code : Coded Journal) (read : List Held) (next : ℕ) (topologies more : List DomainsWithin)
    (n : ℕ)
    → IsPrefix topologies more → Vouches h code read next topologies n → Vouches h code read next more n
vouches_more h code read next topologies more n front all = λ v one here.
    let x = all v one here in
    record {
      masks = x.masks;
      shown = prefix_get topologies more (v - 1) (domains_within h.cpus h.distances x.masks) front x.shown;
      source = x.source;
    }
