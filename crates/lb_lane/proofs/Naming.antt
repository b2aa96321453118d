-- An entry that names figures which were read in the same call: none of them is before one that the lane named, and what
-- the lane keeps stays.
-- For `enter_above` and `scan_at`.
use Rattle.std.proofs.Common.{true, ℕ, ◌≡◌, ◌<◌, ◌≤◌, false, not, ◌||◌, List, [], ◌∷◌, ◌++◌, ltb, length, map, get_or, set, take, refl, sym, subst, ap, ◌∙◌, arith, All}
use Rattle.std.specs.List.{list_any}
use Rattle.std.proofs.lemmas.Bool.{le-ltb}
use Rattle.std.proofs.lemmas.List.{append-nil, get_or-set_same, get_or-set_other, length-set}
use Rattle.std.proofs.lemmas.Option.{slice_get_within}
use Rattle.std.proofs.lemmas.List.Elements.{All-map, All-tail}
use Rattle.std.proofs.lemmas.List.Folds.{list_any_none}
use base.Stored.{Coded}
use mathlib.Core.Logic.{dite}
use native.Mathlib.Decide.{ℕ_discrete}
use Rattle.logbook.specs.Pages.{Book}
use Rattle.atomic_table.specs.Seated.{TableId}
use Rattle.lb_base.specs.declared.mask.Mask.{Mask}
use Rattle.lb_base.specs.Mask.{members}
use Rattle.lb_domain.specs.Domains.{domains_of}
use Rattle.lb_trace.specs.declared.trace.Header.{Header}
use Rattle.lb_core.specs.declared.course.Course.{Course}
use Rattle.lb_core.specs.declared.entry.CpuFig.{CpuFig}
use Rattle.lb_core.specs.declared.entry.FigName.{FigName}
use Rattle.lb_core.specs.declared.entry.What.{What}
use Rattle.lb_core.specs.Same.{same_numbers}
use Rattle.lb_core.proofs.Equality.{numbers_itself}
use Rattle.lb_core.specs.Course.{named_at}
use Rattle.lb_core.specs.CourseAfter.{raised_numbers}
use Rattle.lb_core.specs.OfTrace.{row_of}
use Rattle.lb_journal.specs.Journal.{Journal, names_of}
use Rattle.lb_cell.specs.Kinds.{is_of_lane}
use Rattle.lb_journal.specs.Owners.{UsesVersion}
use Rattle.lb_board.specs.Board.{Sight, seen_at}
use Rattle.lb_seen.proofs.Beginnings.{prefix_length}
use Rattle.lb_cell.specs.Cells.{LaneIs as SideIs}
use Rattle.lb_cell.specs.Own.{item_own}
use Rattle.lb_lane.specs.Lanes.{LaneIs, LaneKeeps, is_due}
use Rattle.lb_lane.specs.Figures.{IsRead, AreOf, AllEarlier, DrewAbove}
use Rattle.lb_lane.proofs.Drawing.{AddsTo}

-- ---- figures
-- none is before one that the lane named
not_before : (course : Course) (a b : Sight) (n : ℕ) (f : CpuFig) → ((k : ℕ) → k < n → named_at course k < length (seen_at a k))
    → f.cpu < n → IsRead a b f → ltb f.fig.n (named_at course f.cpu) ≡ false
not_before course a b n f numbers lt r =
    let s : named_at course f.cpu < length (seen_at a f.cpu) = numbers f.cpu lt in
    let t = r.later in
    le-ltb f.fig.n (named_at course f.cpu) (omega (arith, s, t))

names_cpus : (figs : List CpuFig) → map (λ (f : FigName). f.cpu) (names_of figs) ≡ map (λ f. f.cpu) figs
names_cpus [] = refl
names_cpus (f ∷ figs) = ap (λ (l : List ℕ). f.cpu ∷ l) (names_cpus figs)

pub names_right : (h : Header) (course : Course) (due : Mask) (a b : Sight) (n : ℕ) (figs : List CpuFig)
    → ((k : ℕ) → k < n → named_at course k < length (seen_at a k)) → All (λ f. f.cpu < n) figs → AreOf a b (members due) figs
    → (not (same_numbers (map (λ f. f.cpu) (names_of figs)) (members due))
    || list_any (λ f. ltb f.n (named_at course f.cpu)) (names_of figs)) ≡ false
names_right h course due a b n figs numbers inside are =
    let cpus : map (λ (f : FigName). f.cpu) (names_of figs) ≡ members due =
    names_cpus figs ∙ are.cpus_are in
    let later : list_any (λ (f : FigName). ltb f.n (named_at course f.cpu)) (names_of figs) ≡ false =
    list_any_none (λ (f : FigName). ltb f.n (named_at course f.cpu)) (names_of figs)
    (All-map (λ (f : FigName). ltb f.n (named_at course f.cpu) ≡ false) _ figs
    (λ i d lt. not_before course a b n (get_or figs i d) numbers (inside i d lt) (are.read i d lt))) in
    rw cpus (rw (numbers_itself (members due)) later)

-- ---- the figures are of CPUs of the machine, of each of which the lane has a number
pub names_inside : (n : ℕ) (named : List ℕ) (figs : List CpuFig) → n ≤ length named → All (λ f. f.cpu < n) figs
    → All (λ (f : FigName). f.cpu < length named) (names_of figs)
names_inside n named figs room inside =
    All-map (λ (f : FigName). f.cpu < length named) _ figs
    (λ i e lt. let b : (get_or figs i e).cpu < n = inside i e lt in omega (arith, b, room))

-- a later ticket is above them, too
pub earlier_yet : (n ticket : ℕ) (figs : List CpuFig) → n ≤ ticket → AllEarlier n figs → AllEarlier ticket figs
earlier_yet n ticket figs le all = λ i e lt. let a : (get_or figs i e).fig.ticket < n = all i e lt in omega (arith, a, le)

-- ---- what is kept
-- the numbers that are named are below what was seen
raised : (figs : List CpuFig) (ns : List ℕ) (s : Sight) (n : ℕ) → n ≤ length ns
    → ((k : ℕ) → k < n → get_or ns k 0 < length (seen_at s k)) → All (λ f. f.cpu < n) figs
    → All (λ f. f.fig.n < length (seen_at s f.cpu)) figs → (k : ℕ) → k < n
    → get_or (raised_numbers (names_of figs) ns) k 0 < length (seen_at s k)
raised [] ns s n room so_far inside below = so_far
raised (f ∷ figs) ns s n room so_far inside below =
    let here : f.cpu < n = inside 0 f (omega arith) in
    let now : f.fig.n < length (seen_at s f.cpu) = below 0 f (omega arith) in
    let long = length-set ns f.cpu f.fig.n in
    raised figs (set ns f.cpu f.fig.n) s n (omega (arith, room, long))
    (λ k lt.
    dite (ℕ_discrete k f.cpu)
    (λ (e : k ≡ f.cpu).
    subst (λ (j : ℕ). get_or (set ns f.cpu f.fig.n) j 0 < length (seen_at s j)) (sym e)
    (subst (λ (v : ℕ). v < length (seen_at s f.cpu)) (sym (get_or-set_same ns f.cpu f.fig.n 0 (omega (arith, here, room)))) now))
    (λ ne. subst (λ (v : ℕ). v < length (seen_at s k)) (sym (get_or-set_other ns f.cpu k f.fig.n 0 ne)) (so_far k lt)))
    (All-tail (λ g. g.cpu < n) f figs inside) (All-tail (λ g. g.fig.n < length (seen_at s g.cpu)) f figs below)

-- of the course all that a lane keeps but for these numbers is as it was
abbrev pub NamesLeft : Course → Course → List CpuFig → Type 0
NamesLeft c d figs =
    (d.rows ≡ c.rows) × (d.masks ≡ c.masks) × (d.named_version ≡ c.named_version) × (d.cpu ≡ c.cpu)
    × (d.named ≡ raised_numbers (names_of figs) c.named)

pub names_add : (h : Header) (board : List TableId) (versions : Book) (code : Coded Journal) (l : LaneIs) (side : SideIs)
    (due : Mask) (what : List CpuFig → What) → LaneKeeps h board versions code l → length board ≤ length l.side.course.named
    → (x : DrewAbove h (length board) due l.side side what) → NamesLeft l.side.course side.course x.figs
    → is_due l.side.course.form ≡ false → row_of (what x.figs) l.side.number ≡ []
    → UsesVersion h code l.side.seat.read x.ticket (item_own h l.side (what x.figs) [] x.figs) (what x.figs)
    → is_of_lane (what x.figs) ≡ true → AddsTo h code l (record l { side = side }) (what x.figs) [] x.figs x.ticket
names_add h board versions code l side due what k room x left late none uses goes_on =
    let c = l.side.course in
    let figs = x.figs in
    let seen = seen_at side.known.reader in
    record {
      looker = refl;
      trace = refl;
      vouched = refl;
      version = subst (λ n. n ≤ length l.looker.topologies) (sym left.2) k.version;
      turned = k.turned;
      turns = λ e. k.turns late ∙ sym left.3;
      domains = k.domains ∙ (λ i. domains_of h.cpus h.distances (sym left.1 i) l.turned);
      few = k.few;
      within = subst (λ n. n ≤ length l.rows) (sym left.0) k.within;
      rows = ap (λ rs. take c.rows l.rows ++ rs) none ∙ append-nil (take c.rows l.rows) ∙ ap (λ n. take n l.rows) (sym left.0);
      uses = uses;
      sees = x.sees;
      saw = λ i e lt. record { is = (x.read.read i e lt).is; before = x.earlier i e lt };
      goes_on = goes_on;
      numbers = λ cpu lt.
          let more : (j : ℕ) → j < length board → get_or c.named j 0 < length (seen j) =
          λ j lj.
          let was = k.numbers j (subst (λ n. j < n) k.cells lj) in
          let grows = prefix_length (seen_at l.side.known.reader j) (seen j) (x.sees j) in
          omega (arith, was, grows) in
          let below : All (λ f. f.fig.n < length (seen f.cpu)) figs =
          λ i e li. slice_get_within (seen (get_or figs i e).cpu) _ _ (x.read.read i e li).is in
          subst (λ (ns : List ℕ). get_or ns cpu 0 < length (seen cpu)) (sym left.4)
          (raised figs c.named side.known.reader (length board) room more x.inside below cpu
          (subst (λ n. cpu < n) (sym k.cells) lt));
    }
