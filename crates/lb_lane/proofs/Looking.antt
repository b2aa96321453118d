-- What a lane reads of the figures, one CPU after the other.
-- For `enter_above`, `read_all` and `read_small`.
use Rattle.std.proofs.Common.{ℕ, ◌≡◌, ◌≤◌, List, [], ◌∷◌, ◌++◌, length, map, get_or, refl, sym, subst, ap, ◌∙◌, arith, All}
use Rattle.std.proofs.lemmas.List.{map-append}
use Rattle.std.proofs.lemmas.List.Elements.{All-nil, All-push}
use Rattle.lb_core.specs.declared.entry.CpuFig.{CpuFig}
use Rattle.lb_board.specs.Board.{Sight, seen_at}
use Rattle.lb_seen.proofs.Beginnings.{prefix_self, prefix_trans, prefix_get, prefix_length}
use Rattle.lb_cell.specs.Cells.{LaneIs as SideIs}
use Rattle.lb_cell.specs.Reads.{SeesMore}
use Rattle.lb_lane.specs.Figures.{IsRead, AreOf, Sees}

-- ---- what was seen
pub sees_self : (l : SideIs) → Sees l l
sees_self l = (
  record { seat = refl; course = refl; number = refl; ticket = refl; landing = refl },
  λ cpu. prefix_self (seen_at l.known.reader cpu),
)

pub more_on : (a b c : Sight) → SeesMore a b → SeesMore b c → SeesMore a c
more_on a b c e f = λ cpu. prefix_trans (seen_at a cpu) (seen_at b cpu) (seen_at c cpu) (e cpu) (f cpu)

pub sees_on : (a b c : SideIs) → Sees a b → Sees b c → Sees a c
sees_on a b c e f = (
  record {
    seat = f.0.seat ∙ e.0.seat;
    course = f.0.course ∙ e.0.course;
    number = f.0.number ∙ e.0.number;
    ticket = f.0.ticket ∙ e.0.ticket;
    landing = f.0.landing ∙ e.0.landing;
  },
  more_on a.known.reader b.known.reader c.known.reader e.1 f.1,
)

-- ---- the figures
pub none_read : (a b : Sight) (cpus : List ℕ) (figs : List CpuFig) → cpus ≡ [] → figs ≡ [] → AreOf a b cpus figs
none_read a b cpus figs ec ef = record {
  cpus_are = ap (map (λ f. f.cpu)) ef ∙ sym ec;
  read = subst (All (IsRead a b)) (sym ef) (All-nil (IsRead a b));
}

-- what was read before stays, and what is read now is none before what was seen then
pub one_more : (a b c : Sight) (cpus cpus' : List ℕ) (figs figs' : List CpuFig) (f : CpuFig) (cpu : ℕ) → SeesMore a b
    → SeesMore b c → AreOf a b cpus figs → IsRead b c f → f.cpu ≡ cpu → cpus' ≡ cpus ++ cpu ∷ [] → figs' ≡ figs ++ f ∷ []
    → AreOf a c cpus' figs'
one_more a b c cpus cpus' figs figs' f cpu ab bc so_far here is ec ef =
    let stays : (g : CpuFig) → IsRead a b g → IsRead a c g =
    λ g x. record { is = prefix_get (seen_at b g.cpu) (seen_at c g.cpu) g.fig.n g.fig (bc g.cpu) x.is; later = x.later } in
    let new : IsRead a c f = record {
      is = here.is;
      later =
          let s : length (seen_at a f.cpu) ≤ length (seen_at b f.cpu) =
          prefix_length (seen_at a f.cpu) (seen_at b f.cpu) (ab f.cpu) in
          let t = here.later in
          omega (arith, s, t);
    } in
    record {
      cpus_are =
          ap (map (λ x. x.cpu)) ef
          ∙ (map-append (λ (x : CpuFig). x.cpu) figs (f ∷ []) ∙ ((λ i. so_far.cpus_are i ++ is i ∷ []) ∙ sym ec));
      read =
          subst (All (IsRead a c)) (sym ef)
          (All-push (IsRead a c) figs f (λ i d lt. stays (get_or figs i d) (so_far.read i d lt)) new);
    }

-- what was read since a later moment was read since an earlier one
pub read_since : (a b c : Sight) (cpus : List ℕ) (figs : List CpuFig) → SeesMore a b → AreOf b c cpus figs → AreOf a c cpus figs
read_since a b c cpus figs ab are = record {
  cpus_are = are.cpus_are;
  read = λ i d lt.
      let f : CpuFig = get_or figs i d in
      let r : IsRead b c f = are.read i d lt in
      let s : length (seen_at a f.cpu) ≤ length (seen_at b f.cpu) =
      prefix_length (seen_at a f.cpu) (seen_at b f.cpu) (ab f.cpu) in
      let t = r.later in
      record { is = r.is; later = omega (arith, s, t) };
}
