-- A look may be drawn exactly where the lane's own domains say so.
-- For `Lane::can_look`.
use Rattle.std.proofs.Common.{ℕ, ◌≡◌, ◌<◌, ◌↔◌, Bool, true, false, Some, slice_get, List, length, get_or, sym, subst, ap, ◌∙◌}
use Rattle.std.proofs.lemmas.Option.{get_or_from_slice_get, slice_get_within}
use base.Stored.{Coded}
use Rattle.logbook.specs.Pages.{Book}
use Rattle.atomic_table.specs.Seated.{TableId}
use Rattle.lb_base.specs.Mask.{has}
use Rattle.lb_imbalance.specs.Decision.{group_at}
use Rattle.lb_domain.specs.declared.domain.Domain.{Domain}
use Rattle.lb_domain.specs.Domains.{domains_of}
use Rattle.lb_trace.specs.declared.trace.Header.{Header}
use Rattle.lb_core.specs.Course.{no_domain, turn_domain, turn_domains}
use Rattle.lb_journal.specs.Journal.{Journal}
use Rattle.lb_lane.specs.Lanes.{LaneIs, LaneKeeps, is_due}
use Rattle.lb_lane.specs.Looks.{LookAsks, look_due}
use Rattle.lb_lane.proofs.Deciding.{look_not_due}

module _ (h : Header) (board : List TableId) (versions : Book) (code : Coded Journal) (l : LaneIs) (p : ℕ) (d : Domain) where
  -- the domains are those of the turn, unless one of another CPU is due
  domains_are : LaneKeeps h board versions code l → is_due l.side.course.form ≡ false → l.domains ≡ turn_domains h l.side.course
  domains_are k late = k.domains ∙ ap (domains_of h.cpus h.distances l.side.course.masks) (k.turns late)

  domain_is : LaneKeeps h board versions code l → is_due l.side.course.form ≡ false → p ≡ l.side.course.position
      → slice_get l.domains p ≡ Some d → turn_domain h l.side.course ≡ d
  domain_is k late at here =
      ap (λ (ds : List Domain). get_or ds l.side.course.position no_domain) (sym (domains_are k late))
      ∙ (ap (λ (n : ℕ). get_or l.domains n no_domain) (sym at) ∙ get_or_from_slice_get l.domains p d no_domain here)

  pub look_when : (due apart : Bool) → LaneKeeps h board versions code l → p ≡ l.side.course.position
      → slice_get l.domains p ≡ Some d
      → ((h : Header) → turn_domain h l.side.course ≡ d → due ≡ look_due l.side.course.form h l.side.course)
      → (due ≡ true → is_due l.side.course.form ≡ false)
      → (apart ≡ true) ↔ ((k : ℕ) → has (group_at d.groups 0) k ≡ true → has l.side.course.excluded k ≡ false) → due ≡ true
      → (apart ≡ true) ↔ LookAsks h l
  look_when due apart k at here is late kept holds =
      let domain = domain_is k (late holds) at here in
      let short : l.side.course.position < length (turn_domains h l.side.course) =
      subst (λ (t : Type 0). t) (λ i. at i < length (domains_are k (late holds) i)) (slice_get_within l.domains p d here) in (
        λ e. record {
          due = sym (is h domain) ∙ holds;
          position = short;
          kept = subst
              (λ (x : Domain). (k : ℕ) → has (group_at x.groups 0) k ≡ true → has l.side.course.excluded k ≡ false)
              (sym domain) (kept.0 e);
        },
        λ asks. kept.1
            (subst (λ (x : Domain). (k : ℕ) → has (group_at x.groups 0) k ≡ true → has l.side.course.excluded k ≡ false) domain
            asks.kept),
      )

  pub no_look : (due : Bool) → LaneKeeps h board versions code l → p ≡ l.side.course.position → slice_get l.domains p ≡ Some d
      → ((h : Header) → turn_domain h l.side.course ≡ d → due ≡ look_due l.side.course.form h l.side.course) → due ≡ false
      → LookAsks h l → ⊥
  no_look due k at here is fails asks =
      let late = look_not_due l.side.course.form h l.side.course asks.due in
      let clash : false ≡ true = sym fails ∙ (is h (domain_is k late at here) ∙ asks.due) in
      cc clash
