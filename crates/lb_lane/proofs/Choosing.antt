-- What a lane copies of a version that it vouches for is that version's; and what it keeps stays as it sees more versions.
-- For `Lane::choose` and `PublisherCell::vouch`.
use Rattle.std.proofs.Common.{ℕ, ◌≡◌, ◌<◌, ◌≤◌, List, Option, Some, None, Result, Ok, Err, IfOk, IfSome, length, sym, subst, ap, ◌∙◌, arith}
use Rattle.std.proofs.lemmas.Option.{same_Some}
use base.Stored.{Coded}
use mathlib.Core.List.{IsPrefix}
use Rattle.logbook.specs.Pages.{Book}
use Rattle.atomic_table.specs.Seated.{TableId}
use Rattle.lb_base.specs.declared.memory.NoMemory.{NoMemory}
use Rattle.lb_domain.specs.Domains.{domains_at, domains_of}
use Rattle.lb_domain.specs.Topologies.{DomainsWithin, domains_within}
use Rattle.lb_domain.proofs.Sizes.{topology_at, length-topology_of}
use Rattle.lb_topub.specs.Versions.{VersionsSeen}
use Rattle.lb_trace.specs.declared.trace.Header.{Header}
use Rattle.lb_journal.specs.Journal.{Journal}
use Rattle.lb_seen.proofs.Beginnings.{prefix_length}
use Rattle.lb_lane.specs.declared.chosen.Chosen.{Chosen}
use Rattle.lb_lane.specs.Lanes.{LaneIs, LaneKeeps}
use Rattle.lb_lane.specs.Vouched.{IsVouched}
use Rattle.lb_lane.specs.Uses.{HasCpu, IsCopyOf, IsChosen}
use Rattle.lb_lane.proofs.Vouching.{vouches_more}

module _ (h : Header) (board : List TableId) (versions : Book) (code : Coded Journal) where
  pub has_cpu : (l : LaneIs) (cpu : ℕ) → LaneKeeps h board versions code l → cpu < length h.cpus
      → HasCpu l.looker.topologies l.vouched cpu
  has_cpu l cpu k lt = λ v one here t shown.
      let x : IsVouched h code l.side.seat.read l.side.seat.next l.looker.topologies v = k.vouches v one here in
      let is : domains_within h.cpus h.distances x.masks ≡ t = same_Some _ _ (sym x.shown ∙ shown) in
      let long : length t.all ≡ length h.cpus =
      ap (λ (y : DomainsWithin). length y.all) (sym is) ∙ length-topology_of h.cpus h.distances x.masks in
      subst (λ n. cpu < n) (sym long) lt

  -- more versions were seen
  pub sees_versions : (l : LaneIs) (looker : VersionsSeen) → LaneKeeps h board versions code l → looker.book ≡ l.looker.book
      → IsPrefix l.looker.topologies looker.topologies → LaneKeeps h board versions code (record l { looker = looker })
  sees_versions l looker k book front =
      let more : length l.looker.topologies ≤ length looker.topologies =
      prefix_length l.looker.topologies looker.topologies front in
      record {
        machine = k.machine;
        cells = k.cells;
        looker = book ∙ k.looker;
        vouches =
            vouches_more h code l.side.seat.read l.side.seat.next l.looker.topologies looker.topologies l.vouched front k.vouches;
        some = k.some;
        seen = let s = k.seen in omega (arith, s, more);
        version = let s = k.version in omega (arith, s, more);
        domains = k.domains;
        turned = k.turned;
        turns = k.turns;
        few = k.few;
        owned = k.owned;
        declared = k.declared;
        short = k.short;
        within = k.within;
        rows = k.rows;
        uses = k.uses;
        saw = k.saw;
        goes_on = k.goes_on;
        numbers = k.numbers;
      }

  chosen_one : (l : LaneIs) (x : Chosen) → LaneKeeps h board versions code l → x.cpu < length h.cpus
      → IsCopyOf l.looker.topologies x → x.version ≡ length l.looker.topologies → x.version ≤ l.vouched → IsChosen h l x
  chosen_one l x k lt c last here =
      let v : IsVouched h code l.side.seat.read l.side.seat.next l.looker.topologies x.version = k.vouches x.version c.one here in
      let is : c.shown ≡ domains_within h.cpus h.distances v.masks = same_Some _ _ (sym c.here ∙ v.shown) in
      let masks : v.masks ≡ x.masks = sym (c.masks ∙ ap (λ (y : DomainsWithin). y.masks) is) in
      record {
        copy = record {
          one = c.one;
          shown = v.shown ∙ ap (λ ms. Some (domains_within h.cpus h.distances ms)) masks;
          cpu = lt;
          few = c.few;
          domains =
              c.domains
              ∙ (ap (λ (y : DomainsWithin). domains_at y.all x.cpu) is
              ∙ (topology_at h.cpus h.distances v.masks x.cpu lt ∙ ap (λ ms. domains_of h.cpus h.distances ms x.cpu) masks));
        };
        vouched = here;
        newest = subst (λ n. l.side.course.named_version ≤ n) (sym last) k.version;
      }

  pub chosen_of : (l : LaneIs) (cpu : ℕ) (r : Result (Option Chosen) NoMemory) → LaneKeeps h board versions code l
      → cpu < length h.cpus → IfOk r (λ o. IfSome o (λ x. IsCopyOf l.looker.topologies x))
      → IfOk r (λ o. IfSome o (λ x. x.version ≡ length l.looker.topologies)) → IfOk r (λ o. IfSome o (λ x. x.version ≤ l.vouched))
      → IfOk r (λ o. IfSome o (λ x. x.cpu ≡ cpu)) → IfOk r (λ o. IfSome o (λ x. IsChosen h l x × (x.cpu ≡ cpu)))
  chosen_of l cpu (Err e) k lt copy last here is = tt
  chosen_of l cpu (Ok None) k lt copy last here is = tt
  chosen_of l cpu (Ok (Some x)) k lt copy last here is =
      (chosen_one l x k (subst (λ n. n < length h.cpus) (sym is) lt) copy last here, is)
