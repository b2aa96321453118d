-- A lane that has read the publisher's list, and was told of all versions, vouches for them.
-- For `PublisherCell::vouch`.
use Rattle.std.proofs.Common.{ℕ, ◌≡◌, ◌-◌, ◌+◌, ◌<◌, ◌≤◌, List, get_or, length, refl, sym, ap, ◌∙◌, arith, inl, inr, All}
use Rattle.std.specs.Prelude.{slice_get}
use Rattle.std.proofs.lemmas.Bool.{cases_lt}
use Rattle.std.proofs.lemmas.Option.{slice_get_cases}
use base.Stored.{Coded}
use mathlib.Core.List.{IsPrefix}
use Rattle.logbook.specs.Pages.{Book}
use Rattle.atomic_table.specs.Seated.{TableId}
use Rattle.lb_domain.specs.Topologies.{DomainsWithin, domains_within}
use Rattle.lb_trace.specs.declared.trace.Header.{Header}
use Rattle.lb_core.specs.declared.entry.What.TheVariants.{Pub}
use Rattle.lb_ticket.specs.declared.item.Drawn.{Drawn}
use Rattle.lb_ticket.specs.declared.view.Held.{Held}
use Rattle.lb_ticket.specs.Facts.{HasRead}
use Rattle.lb_journal.specs.Journal.{Journal}
use Rattle.lb_journal.specs.Merge.{parts_of}
use Rattle.lb_seen.proofs.Beginnings.{prefix_get}
use Rattle.lb_lane.specs.Lanes.{LaneIs, LaneKeeps}
use Rattle.lb_lane.specs.Publishers.{PublisherIs, PublisherKeeps, IsPub}
use Rattle.lb_lane.specs.Vouched.{IsVouched, Vouches}

module _ (h : Header) (book : TableId) (versions : Book) (code : Coded Journal) where
  first_vouched : (p : PublisherIs) (read : List Held) (next : ℕ) (topologies : List DomainsWithin) (v : ℕ)
      → PublisherKeeps h book versions p → IsPrefix p.publisher.topologies topologies → v ≡ 1
      → IsVouched h code read next topologies v
  first_vouched p read next topologies v k front is = record {
    masks = h.parts;
    shown =
        ap (λ (n : ℕ). slice_get topologies (n - 1)) is
        ∙ prefix_get p.publisher.topologies topologies 0 (domains_within h.cpus h.distances h.parts) front k.first;
    source = inl (is, refl);
  }

  later_vouched : (p : PublisherIs) (read : List Held) (next : ℕ) (topologies : List DomainsWithin) (v n : ℕ) (d : Drawn Journal)
      → PublisherKeeps h book versions p → IsPrefix p.publisher.topologies topologies → All (HasRead code read next) p.seat.list
      → n < length p.seat.list → v ≡ n + 2 → IsVouched h code read next topologies v
  later_vouched p read next topologies v n d k front reads lt is =
      let e : Drawn Journal = get_or p.seat.list n d in
      let x : IsPub h p n e = k.pubs n d lt in
      let masks = parts_of e.item.course.command in
      let place : v - 1 ≡ n + 1 = omega (arith, is) in
      record {
        masks = masks;
        shown =
            ap (λ (m : ℕ). slice_get topologies m) place
            ∙ prefix_get p.publisher.topologies topologies (n + 1) (domains_within h.cpus h.distances masks) front x.shown;
        source = inr (record {
          publ = e;
          here = reads n d lt;
          owner = x.owner;
          is = x.what ∙ ap (λ m. Pub m) (sym is);
          masks_are = refl;
        });
      }

  pub all_vouched : (p : PublisherIs) (read : List Held) (next : ℕ) (topologies : List DomainsWithin)
      → PublisherKeeps h book versions p → IsPrefix p.publisher.topologies topologies → All (HasRead code read next) p.seat.list
      → Vouches h code read next topologies (length p.seat.list + 1)
  all_vouched p read next topologies k front reads = λ v one here.
      elim (cases_lt 1 v) [
        | inl lt ↦ elim (slice_get_cases p.seat.list (v - 2)).1 [
          | inl c ↦ later_vouched p read next topologies v (v - 2) c.0 k front reads c.1 (omega (arith, lt))
          | inr c ↦ absurd (let past = c.0 in omega (arith, past, lt, here))
        ]
        | inr ge ↦ first_vouched p read next topologies v k front (omega (arith, one, ge))
      ]

  -- so it keeps what every lane keeps
  pub vouched : (board : List TableId) (l : LaneIs) (n : ℕ) → LaneKeeps h board versions code l → 1 ≤ n
      → n ≤ length l.looker.topologies
      → Vouches h code l.side.seat.read l.side.seat.next l.looker.topologies n
      → LaneKeeps h board versions code (record l { vouched = n })
  vouched board l n k one seen all = record {
    machine = k.machine;
    cells = k.cells;
    looker = k.looker;
    vouches = all;
    some = one;
    seen = seen;
    version = k.version;
    domains = k.domains;
    turned = k.turned;
    turns = k.turns;
    few = k.few;
    owned = k.owned;
    declared = k.declared;
    short = k.short;
    within = k.within;
    rows = k.rows;
    uses = k.uses;
    saw = k.saw;
    goes_on = k.goes_on;
    numbers = k.numbers;
  }
