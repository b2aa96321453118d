-- What an item carries was published earlier: its masks by a `pub` that its lane had read, its figures by
-- the queues that it names.
-- For the laws `uses_stay`, `masks_are_read`, `figures_are_read` and `queue_grows`.
use Rattle.std.proofs.Common.{◌≡◌, ℕ, zero, suc, ◌+◌, ◌-◌, ◌<◌, ◌≤◌, false, not, List, [], ◌∷◌, ◌++◌, length, get_or, map, take, drop, refl, sym, ◌∙◌, ap, subst, arith, inl, inr, All}
use Rattle.std.specs.List.{list_any, range_with_len}
use Rattle.std.proofs.Math.Seq.{split_at as split_list}
use Rattle.std.proofs.lemmas.Bool.{eqb-true, lt-ltb, le-leb, not-false}
use Rattle.std.proofs.lemmas.List.{length-map, length-append, length-take-le, get_or-map}
use Rattle.std.proofs.lemmas.List.FromFn.{length-map-range_with_len, get_or-map-range_with_len, map-range_with_len_more, fill_by_all}
use Rattle.std.proofs.lemmas.List.Elements.{All-head, All-tail, All-map}
use Rattle.std.proofs.lemmas.Option.{get_or_from_slice_get, slice_get_within}
use base.Stored.{Coded}
use Rattle.lb_base.specs.declared.mask.Mask.{Mask}
use Rattle.lb_base.specs.declared.figure.Fig.{Fig}
use Rattle.lb_queue.specs.Figures.{figure}
use Rattle.lb_trace.specs.declared.trace.Header.{Header}
use Rattle.lb_core.specs.declared.entry.CpuFig.{CpuFig}
use Rattle.lb_core.specs.declared.entry.FigName.{FigName}
use Rattle.lb_core.specs.declared.entry.Owner.TheVariants.{Publisher, Queue}
use Rattle.lb_core.specs.declared.entry.What.{What}
use Rattle.lb_core.specs.declared.entry.What.TheVariants.{Adopt, Look, Scan, Pub}
use Rattle.lb_core.specs.declared.rule.Rule.TheVariants.{Reply as ReplyRule}
use Rattle.lb_core.specs.Rules.{breaks_reply}
use Rattle.lb_ticket.specs.declared.item.Drawn.{Drawn}
use Rattle.lb_ticket.specs.declared.view.Held.{Held}
use Rattle.lb_ticket.specs.Tickets.{Closes, Rises, AllOwned, Has, InLists, pair}
use Rattle.lb_ticket.specs.Facts.{AllDrawn}
use Rattle.lb_journal.specs.Journal.{Journal, Fits, CarriesFigs, names_of, number_of, sight_in, meaning_of_journal}
use Rattle.lb_journal.specs.Merge.{list_of, queue_list, below, figure_after, figures_of, is_named_before, ReadsFigures, CarriesRead, parts_of, versions_of, ReadsMasks, CarriesVersion}
use Rattle.lb_journal.specs.Owners.{UsesStay, lists_of, ReadsPub, UsesVersion, MasksAreRead, published, ReadsFigure, FiguresAreRead, QueueGrows}
use Rattle.lb_ticket.proofs.Logs.{list_fits, fits_at, fits_part}
use Rattle.lb_journal.proofs.Items.{versions_length, figure_front, replay_snoc}
use Rattle.lb_journal.proofs.Stepping.{last_figure}
use Rattle.lb_journal.proofs.Lanes.{split_at}
use Rattle.lb_journal.proofs.Bridge.{each_of, each_at, each_from}
use Rattle.lb_journal.proofs.Known.{list_in}
use Rattle.lb_ticket.proofs.Members.{place_in, has_either}

-- ---- what stands before a ticket in a rising list
rises_at : (b : ℕ) (ds : List (Drawn Journal)) (k : ℕ) → Rises b ds → k < length ds →
    b < get_or (map (λ (d : ℕ × Journal). d.0) (map pair ds)) k 0
rises_at b [] k r lt = absurd (omega arith)
rises_at b (d ∷ ds) zero r lt = r.0
rises_at b (d ∷ ds) (suc k) r lt = let h = rises_at d.ticket ds k r.1 (omega arith) in let l = r.0 in omega arith

-- an item has those before it there, too
pub counted_below : (b t : ℕ) (ds : List (Drawn Journal)) (k : ℕ) → Rises b ds → k < length ds →
    get_or (map (λ (d : ℕ × Journal). d.0) (map pair ds)) k 0 < t → k < length (below t (map pair ds))
counted_below b t [] k r lt le = absurd (omega arith)
counted_below b t (d ∷ ds) zero r lt le = rw (lt-ltb d.ticket t le) (omega arith)
counted_below b t (d ∷ ds) (suc k) r lt le =
    let h = rises_at d.ticket ds k r.1 (omega arith) in
    rw (lt-ltb d.ticket t (omega arith)) (omega (arith, counted_below d.ticket t ds k r.1 (omega arith) le))

-- ---- versions
owned_number : (k : ℕ) (ds : List (Drawn Journal)) (d : Drawn Journal) → AllOwned meaning_of_journal k ds → Has d ds →
    number_of d.item.entry.owner ≡ k
owned_number k [] d o h = absurd h
owned_number k (x ∷ ds) d o (inl p) = ap (λ (y : Drawn Journal). number_of y.item.entry.owner) (sym p) ∙ o.0
owned_number k (x ∷ ds) d o (inr h) = owned_number k ds d o.1 h

-- the place of a `pub` says its version
pub_version : (ds : List (ℕ × Journal)) (j : Journal) (v : ℕ) → Fits ds j → j.entry.owner ≡ Publisher →
    j.entry.what ≡ Pub v → v ≡ length ds + 2
unfolding sight_in
pub_version ds j v f own is =
    let e = not-false _ (subst (λ (w : What). breaks_reply (sight_in ds j) w ≡ false) is (f.allowed ReplyRule)) in
    eqb-true v (length ds + 2) (rw own at e)

module _ (lists : List (List (Drawn Journal))) (book : Closes meaning_of_journal lists) where
  reads_masks : (h : Header) (code : Coded Journal) (read : List Held) → AllDrawn code read lists →
      (t : ℕ) (j : Journal) (v : ℕ) → ReadsPub code read t j v → ReadsMasks h lists t j v
  reads_masks h code read all t j v r =
      let e = all _ r.here.read_it in
      let same : e.entry ≡ r.publ =
      (let k = ap (λ (x : Held). x.ticket) e.held in
      let i = code.inj e.entry.item r.publ.item (ap (λ (x : Held). x.item) e.held) in
      λ x. record { ticket = k x; item = i x })
      in
      let p = list_in r.publ lists (subst (λ (y : Drawn Journal). InLists y lists) same e.there) in
      let zero_is : p.0 ≡ 0 =
      sym
      (owned_number p.0 (get_or lists p.0 []) r.publ (list_fits meaning_of_journal lists book p.0).owners.owned p.1)
      ∙ ap number_of r.owner in
      at_place h t j v r
      (place_in r.publ (get_or lists 0 []) (subst (λ (k : ℕ). Has r.publ (get_or lists k [])) zero_is p.1))
    where
      at_place : (h : Header) (t : ℕ) (j : Journal) (v : ℕ) {code : Coded Journal} {read : List Held}
          (r : ReadsPub code read t j v) →
          (q : ℕ) × (q < length (get_or lists 0 []))
          × (get_or (get_or lists 0 []) q r.publ ≡ r.publ) → ReadsMasks h lists t j v
      at_place h t j v r (q, lt, is) =
          let no_list : List (Drawn Journal) = [] in
          let ds = get_or lists 0 no_list in
          let own = (list_fits meaning_of_journal lists book 0).owners in
          let items = list_of lists 0 in
          let d = pair r.publ in
          let long : length items ≡ length ds = length-map ds pair in
          let here : get_or items q d ≡ d = get_or-map pair ds q r.publ d lt ∙ ap pair is in
          let parts =
          split_list items q d (omega arith)
          ∙ ap (λ (x : ℕ × Journal). take q items ++ x ∷ drop (suc q) items) here in
          let fits = fits_part meaning_of_journal [] ds (take q items) (drop (suc q) items) d own.fits parts in
          let version = pub_version (take q items) r.publ.item v fits r.owner r.is in
          let front : length (take q items) ≡ q = length-take-le q items (omega arith) in
          let before = r.here.before in
          let ticket : get_or (map (λ (x : ℕ × Journal). x.0) items) q 0 ≡ r.publ.ticket =
          get_or-map (λ (x : ℕ × Journal). x.0) items q d 0 (omega arith) ∙ ap (λ (x : ℕ × Journal). x.0) here in
          let counted = counted_below 0 t ds q own.rises lt (omega arith) in
          let f : ℕ × Journal → List Mask = λ (x : ℕ × Journal). parts_of x.1.course.command in
          record {
            masks =
                r.masks ∙ ap f (sym here) ∙ sym (get_or-map f items q d [] (omega arith))
                ∙ ap (λ (n : ℕ). get_or (versions_of h items) n []) (let k : suc q ≡ v - 1 = omega arith in k);
            earlier = (let l = versions_length h (below t items) in omega arith);
          }

  masks_by : (h : Header) (code : Coded Journal) (read : List Held) → AllDrawn code read lists →
      (t : ℕ) (j : Journal) (w : What) → UsesVersion h code read t j w → CarriesVersion h lists t j w
  masks_by h code read all t j (Adopt v kind cpu) (inl o) = record {
    masks = o.1 ∙ ap (λ (n : ℕ). get_or (versions_of h (list_of lists 0)) (n - 1) []) (sym o.0);
    earlier = (let e = o.0 in let l = versions_length h (below t (list_of lists 0)) in omega arith);
  }
  masks_by h code read all t j (Adopt v kind cpu) (inr r) = reads_masks h code read all t j v r
  masks_by h code read all t j w u = tt

  -- ---- figures
  figure_is : (h : Header) (t : ℕ) (f : CpuFig) → ReadsFigure h lists t f →
      (figure_after h f.cpu (queue_list lists f.cpu) f.fig.n ≡ f.fig) × (f.fig.n ≤ length (queue_list lists f.cpu))
  figure_is h t f r =
      let ds = queue_list lists f.cpu in
      let n = f.fig.n in
      let g = figure_after h f.cpu ds in
      let within = slice_get_within (published h f.cpu ds) n f.fig r.is in
      let long = length-map-range_with_len g 0 (length ds + 1) in (
        sym (get_or-map-range_with_len g 0 (length ds + 1) n n f.fig (omega arith) (omega arith))
            ∙ get_or_from_slice_get (published h f.cpu ds) n f.fig f.fig r.is,
        omega arith,
      )

  named_before : (h : Header) (t n cpu : ℕ) (fig : Fig) → n ≤ length (queue_list lists cpu) →
      figure_after h cpu (queue_list lists cpu) n ≡ fig → fig.ticket < t → n ≤ length (below t (queue_list lists cpu))
  unfolding figure
  named_before h t zero cpu fig le is lt = omega arith
  named_before h t (suc k) cpu fig le is lt =
      let x = number_of (Queue cpu) in
      let ds = get_or lists x [] in
      let l = length-map ds pair in
      let ticket : get_or (map (λ (d : ℕ × Journal). d.0) (queue_list lists cpu)) k 0 ≡ fig.ticket =
      ap (λ (f : Fig). f.ticket) is in
      counted_below 0 t ds k (list_fits meaning_of_journal lists book x).owners.rises (omega arith) (omega arith)

  figs_are : (h : Header) (t : ℕ) (figs : List CpuFig) → All (ReadsFigure h lists t) figs →
      figs ≡ figures_of h lists (names_of figs)
  figs_are h t [] all = refl
  figs_are h t (f ∷ figs) all =
      let e = (figure_is h t f (All-head (ReadsFigure h lists t) f figs all)).0 in
      let more = figs_are h t figs (All-tail (ReadsFigure h lists t) f figs all) in
      λ i. record { cpu = f.cpu; fig = sym e i } ∷ more i

  figs_before : (h : Header) (t : ℕ) (figs : List CpuFig) → All (ReadsFigure h lists t) figs →
      list_any (λ f. not (is_named_before lists t f)) (names_of figs) ≡ false
  figs_before h t [] all = refl
  figs_before h t (f ∷ figs) all =
      let r = All-head (ReadsFigure h lists t) f figs all in
      let e = figure_is h t f r in
      let le = named_before h t f.fig.n f.cpu f.fig e.1 e.0 r.before in
      rw (le-leb f.fig.n (length (below t (queue_list lists f.cpu))) le)
      (figs_before h t figs (All-tail (ReadsFigure h lists t) f figs all))

  reads_figures : (h : Header) (t : ℕ) (j : Journal) (names : List FigName) → names_of j.figs ≡ names →
      All (ReadsFigure h lists t) j.figs → ReadsFigures h lists t j names
  reads_figures h t j names e all = record {
    figs = figs_are h t j.figs all ∙ ap (figures_of h lists) e;
    earlier =
        ap (λ (l : List FigName). list_any (λ f. not (is_named_before lists t f)) l) (sym e)
        ∙ figs_before h t j.figs all;
  }

  figures_by : (h : Header) (t : ℕ) (j : Journal) (w : What) → CarriesFigs w j.figs →
      All (ReadsFigure h lists t) j.figs →
      CarriesRead h lists t j w
  figures_by h t j (Look p x names d) e all = reads_figures h t j names e all
  figures_by h t j (Scan names target) e all = reads_figures h t j names e all
  figures_by h t j w e all = tt

-- more is read
uses_more : (h : Header) (code : Coded Journal) (read more : List Held) (t : ℕ) (j : Journal) (w : What) →
    UsesVersion h code read t j w → UsesVersion h code (read ++ more) t j w
uses_more h code read more t j (Adopt v kind cpu) (inl o) = inl o
uses_more h code read more t j (Adopt v kind cpu) (inr r) = inr (record {
  publ = r.publ;
  here = record { read_it = has_either read more _ (inl r.here.read_it); before = r.here.before };
  owner = r.owner;
  is = r.is;
  masks = r.masks;
})
uses_more h code read more t j w u = tt

pub uses_stay : UsesStay
uses_stay h code read more ds all k d lt =
    let x = get_or ds k d in uses_more h code read more x.ticket x.item x.item.entry.what (all k d lt)

pub masks_are_read : MasksAreRead
masks_are_read h code seats book all uses =
    let lists = lists_of seats in
    each_of (λ d. CarriesVersion h lists d.0 d.1 d.1.entry.what) lists
    (All-map (λ ds. All (λ (d : Drawn Journal). CarriesVersion h lists d.ticket d.item d.item.entry.what) ds) (λ s. s.list) seats
    (λ k s lt q d low. let seat = get_or seats k s in let x = get_or seat.list q d in
    masks_by lists book h code seat.read (all k s lt) x.ticket x.item x.item.entry.what (uses k s lt q d low)))

pub figures_are_read : FiguresAreRead
figures_are_read h lists book reads =
    each_from lists book (λ d. CarriesRead h lists d.0 d.1 d.1.entry.what)
    (λ k j a.
    let sp = split_at book.log k j a in
    figures_by lists book h (suc k) j j.entry.what
    (fits_at meaning_of_journal lists book sp.pre sp.rest j sp.parts).figs
    (each_at lists book (λ d. All (ReadsFigure h lists d.0) d.1.figs)
    (each_of (λ d. All (ReadsFigure h lists d.0) d.1.figs) lists reads) k j a))

-- ---- what a queue publishes
pub queue_grows : QueueGrows
queue_grows h cpu ds ticket j =
    let now = ds ++ (ticket, j) ∷ [] in
    let g = figure_after h cpu now in
    let n = length ds + 1 in
    let more : length now + 1 ≡ n + 1 = omega (arith, length-append ds ((ticket, j) ∷ [])) in
    let front : map g (range_with_len 0 n) ≡ published h cpu ds =
    fill_by_all (figure_after h cpu ds) (map g (range_with_len 0 n)) n (g 0) (length-map-range_with_len g 0 n)
    (λ k lt.
    get_or-map-range_with_len g 0 n k k (g 0) lt (omega arith)
    ∙ figure_front h cpu ds ((ticket, j) ∷ []) k (omega arith))
    in
    let queue = replay_snoc h cpu ds ticket j in (
      queue,
      ap (λ (k : ℕ). map g (range_with_len 0 k)) more
          ∙ map-range_with_len_more g 0 n n (omega arith)
          ∙ (λ i. front i ++ last_figure h cpu n ticket j ds (omega arith) i ∷ [])
          ∙ (λ i. published h cpu ds ++ figure (queue i) n ticket ∷ []),
    )
