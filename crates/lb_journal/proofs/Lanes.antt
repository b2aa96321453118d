-- The items of the log by their tickets: the chain of each lane.
-- For the lemmas of `Agreement`, `Bridge` and other files, and so for the laws `merge_is_run`, `closing_is_last` and
-- others.
use Rattle.std.proofs.Common.{◌≡◌, ℕ, zero, suc, ◌+◌, ◌<◌, ◌≤◌, Bool, true, false, cond, eqb, List, [], ◌∷◌, ◌++◌, length, get_or, Option, Some, None, refl, sym, ◌∙◌, ap, subst, arith, inl, inr, eq-eqb}
use Rattle.std.proofs.lemmas.Bool.{and_parts, and_from, not-false, eqb-true, cases_eq, cases_Bool, both_ways, false_from_ne_true}
use mathlib.Core.Option.{some-ne-none, some-injective}
use Rattle.lb_core.specs.declared.course.Course.{Course}
use Rattle.lb_core.specs.declared.course.Form.{Form}
use Rattle.lb_core.specs.declared.course.Form.TheVariants.{Rest}
use Rattle.lb_core.specs.declared.entry.Owner.{Owner}
use Rattle.lb_core.specs.declared.entry.Owner.TheVariants.{Publisher, Lane, Queue}
use Rattle.lb_core.specs.declared.entry.What.{What}
use Rattle.lb_core.specs.declared.entry.What.TheVariants.{Row, Adopt, Look, Scan, End, Out, Pub}
use Rattle.lb_core.specs.declared.rule.Rule.TheVariants.{Stage}
use Rattle.lb_core.specs.Stage.{draws, is_owner, queue_due, stage_allows}
use Rattle.lb_journal.specs.Journal.{Journal, Fits, Begins, number_of, is_nil, may_begin, is_out_stop, sight_in, meaning_of_journal}
use Rattle.lb_journal.specs.Merge.{closing_out, is_out_at_rest}
use Rattle.lb_ticket.proofs.Logs.{owned_from, at_below, at_get_or, get_or_at_elem}
use Rattle.lb_journal.proofs.Chain.{Quotes}
use Rattle.lb_journal.proofs.Good.{At, Linked, items_of}

-- ---- places
-- the log up to an item, and from it on
pub record Split (log : List Journal) (k : ℕ) (j : Journal) : Type 0 where
  pub pre : List Journal
  pub rest : List Journal
  pub parts : log ≡ pre ++ j ∷ rest
  pub place : length pre ≡ k

pub split_at : (log : List Journal) (k : ℕ) (j : Journal) → At log k j → Split log k j
split_at [] k j a = absurd (some-ne-none j (sym a))
split_at (x ∷ log) zero j a = record {
  pre = [];
  rest = log;
  parts = ap (λ (y : Journal). y ∷ log) (some-injective x j a);
  place = refl;
}
split_at (x ∷ log) (suc k) j a =
    let s = split_at log k j a in
    record { pre = x ∷ s.pre; rest = s.rest; parts = ap (λ (l : List Journal). x ∷ l) s.parts; place = ap suc s.place }

pub at_mid : (pre rest : List Journal) (j : Journal) → At (pre ++ j ∷ rest) (length pre) j
at_mid [] rest j = refl
at_mid (x ∷ pre) rest j = at_mid pre rest j

pub at_front : (pre rest : List Journal) (k : ℕ) (i : Journal) → At pre k i → At (pre ++ rest) k i
at_front [] rest k i a = absurd (some-ne-none i (sym a))
at_front (x ∷ pre) rest zero i a = a
at_front (x ∷ pre) rest (suc k) i a = at_front pre rest k i a

pub front_at : (pre rest : List Journal) (k : ℕ) (i : Journal) → k < length pre → At (pre ++ rest) k i → At pre k i
front_at [] rest k i lt a = absurd (omega arith)
front_at (x ∷ pre) rest zero i lt a = a
front_at (x ∷ pre) rest (suc k) i lt a = front_at pre rest k i (omega arith) a

-- ---- the log by tickets; `d` stands at ticket 0
module _ (log : List Journal) (d : Journal) where
  abbrev pub item : ℕ → Journal
  item t = get_or (d ∷ log) t d

  abbrev pub lane_at : ℕ → ℕ
  lane_at t = (item t).entry.lane

  abbrev pub quote_at : ℕ → ℕ
  quote_at t = (item t).entry.prev

  pub item_is : (k : ℕ) (j : Journal) → At log k j → item (suc k) ≡ j
  item_is k j a = at_get_or log k j d a

  pub item_there : (k : ℕ) → suc k ≤ length log → At log k (item (suc k))
  item_there k le = get_or_at_elem log k d (omega arith)

-- an owner has an item of its own
pub has_items : (k n : ℕ) (pre : List Journal) (s : ℕ) (i : Journal) → At pre s i → number_of i.entry.owner ≡ k →
    is_nil (owned_from meaning_of_journal k n pre) ≡ true → ⊥
has_items k n [] s i a own z = some-ne-none i (sym a)
has_items k n (x ∷ pre) zero i a own z =
    go (eqb (number_of x.entry.owner) k)
    (eq-eqb (number_of x.entry.owner) k (ap (λ (y : Journal). number_of y.entry.owner) (some-injective x i a) ∙ own)) z
  where
    go : (b : Bool) → b ≡ true →
        is_nil
        (cond b ((n, x) ∷ owned_from meaning_of_journal k (n + 1) pre) (owned_from meaning_of_journal k (n + 1) pre)) ≡
        true →
        ⊥
    go true e z = let q : ⊥ = cc in q
    go false e z = let q : ⊥ = cc in q
has_items k n (x ∷ pre) (suc s) i a own z = go (eqb (number_of x.entry.owner) k) z (has_items k (n + 1) pre s i a own)
  where
    go : (b : Bool) →
        is_nil
        (cond b ((n, x) ∷ owned_from meaning_of_journal k (n + 1) pre) (owned_from meaning_of_journal k (n + 1) pre)) ≡
        true →
        (is_nil (owned_from meaning_of_journal k (n + 1) pre) ≡ true → ⊥) → ⊥
    go true z rec = let q : ⊥ = cc in q
    go false z rec = rec z

-- ---- whose an item is
pub owner_by : (w : What) (lane l : ℕ) (due : Option ℕ) → is_owner w lane due (Lane l) ≡ true → l ≡ lane
owner_by (Row n at command) lane l due e = eqb-true l lane e
owner_by (Adopt v kind cpu) lane l due e = eqb-true l lane e
owner_by (Look p x fs d) lane l due e = eqb-true l lane e
owner_by (Scan fs t) lane l due e = eqb-true l lane e
owner_by (End unserved) lane l due e = eqb-true l lane e
owner_by (Pub v) lane l due e = absurd (let q : ⊥ = cc in q)
owner_by w lane l (Some cpu) e = absurd (let q : ⊥ = cc in q)
owner_by w lane l None e = absurd (let q : ⊥ = cc in q)

-- the stage of an item that fits
pub record Staged (ds : List (ℕ × Journal)) (j : Journal) : Type 0 where
  pub owner : is_owner j.entry.what j.entry.lane (queue_due j.course.form j.course) j.entry.owner ≡ true
  pub draws : draws j.course.form j.header j.course (sight_in ds j).queue j.entry.lane j.entry.what ≡ true

pub staged : (ds : List (ℕ × Journal)) (j : Journal) → Fits ds j → Staged ds j
unfolding stage_allows sight_in
staged ds j f =
    let s = and_parts _ _ (not-false (stage_allows (sight_in ds j) j.entry) (f.allowed Stage)) in
    record { owner = s.0; draws = s.1 }

pub lane_owner : (ds : List (ℕ × Journal)) (j : Journal) (l : ℕ) → Fits ds j → j.entry.owner ≡ Lane l → l ≡ j.entry.lane
lane_owner ds j l f e = owner_by j.entry.what j.entry.lane l _ (rw e at (staged ds j f).owner)

-- ---- the first item of a lane
pub record OwnFirst (pre : List Journal) (i : Journal) : Type 0 where
  pub owner : i.entry.owner ≡ Lane i.entry.lane
  pub nil : is_nil (items_of (number_of (Lane i.entry.lane)) pre) ≡ true

stop_closes : (w : What) (f : Form) → is_out_stop w ≡ true → f ≡ Rest → is_out_at_rest w f ≡ true
stop_closes (Out cause to tasks) Rest s e = refl
stop_closes (Out cause to tasks) f s e = absurd (let q : ⊥ = cc in q)
stop_closes w f s e = absurd (let q : ⊥ = cc in q)

first_by : (o : Owner) (pre : List Journal) (i : Journal) → Fits (items_of (number_of i.entry.owner) pre) i →
    closing_out i ≡ false → i.entry.owner ≡ o → Begins (items_of (number_of i.entry.owner) pre) i → OwnFirst pre i
first_by (Lane l) pre i fits c own b =
    let same_lane : l ≡ i.entry.lane = lane_owner _ i l fits own in
    let o : i.entry.owner ≡ Lane i.entry.lane = own ∙ ap Lane same_lane in
    record {
      owner = o;
      nil = subst (λ (x : Owner). may_begin x (items_of (number_of x) pre) i.entry ≡ true) o b.allowed;
    }
first_by (Queue cpu) pre i fits c own b =
    let a =
    and_parts (eqb i.entry.lane 0) (is_out_stop i.entry.what)
    (subst (λ (x : Owner). may_begin x (items_of (number_of x) pre) i.entry ≡ true) own b.allowed) in
    let r : i.course.form ≡ Rest = ap (λ (x : Course). x.form) b.course in
    absurd (both_ways (closing_out i) c (and_from _ _ (stop_closes i.entry.what i.course.form a.1 r) a.0))
first_by Publisher pre i fits c own b =
    let a : false ≡ true =
    subst (λ (x : Owner). may_begin x (items_of (number_of x) pre) i.entry ≡ true) own b.allowed in
    absurd (let q : ⊥ = cc in q)

-- an item without a quote, that closes nothing, is the first of its lane's own list
pub first_own : (pre : List Journal) (i : Journal) → Fits (items_of (number_of i.entry.owner) pre) i →
    closing_out i ≡ false → i.entry.prev ≡ 0 → OwnFirst pre i
first_own pre i fits c z = first_by i.entry.owner pre i fits c refl (fits.first z)

module _ (closing : Journal → Bool) (log : List Journal) (good : Linked closing log) where
  pub own_first : (pre rest : List Journal) (i : Journal) → log ≡ pre ++ i ∷ rest → closing i ≡ false →
      i.entry.prev ≡ 0 →
      OwnFirst pre i
  own_first pre rest i e c z =
      first_own pre i (good.fits pre rest i e)
      (false_from_ne_true (closing_out i) (λ o. both_ways (closing i) c (good.out_closes i o))) z

  pub at_log : (pre rest : List Journal) (j : Journal) → log ≡ pre ++ j ∷ rest → At log (length pre) j
  at_log pre rest j e = subst (λ (l : List Journal). At l (length pre) j) (sym e) (at_mid pre rest j)

  pub at_pre : (pre rest : List Journal) (j : Journal) (k : ℕ) (i : Journal) → log ≡ pre ++ j ∷ rest → k < length pre →
      At log k i → At pre k i
  at_pre pre rest j k i e lt a = front_at pre (j ∷ rest) k i lt (subst (λ (l : List Journal). At l k i) e a)

  pub at_whole : (pre rest : List Journal) (k : ℕ) (i : Journal) → log ≡ pre ++ rest → At pre k i → At log k i
  at_whole pre rest k i e a = subst (λ (l : List Journal). At l k i) (sym e) (at_front pre rest k i a)

  -- and then the lane drew nothing before
  none_before : (fuel : ℕ) (pre rest : List Journal) (j : Journal) (s : ℕ) (i : Journal) → log ≡ pre ++ j ∷ rest →
      closing j ≡ false → OwnFirst pre j → s < fuel → s < length pre → At log s i → i.entry.lane ≡ j.entry.lane → ⊥
  none_before zero pre rest j s i e c own lt before a l = absurd (omega arith)
  none_before (suc fuel) pre rest j s i e c own lt before a l = elim (cases_Bool (closing i)) [
    | inl closed ↦ absurd (let k = good.closing_last (length pre) s j i (at_log pre rest j e) a c closed in omega arith)
    | inr open_ ↦
        let sp = split_at log s i a in
        elim (cases_eq i.entry.prev 0) [
          | inl z ↦
              let first = own_first sp.pre sp.rest i sp.parts open_ z in
              has_items (number_of (Lane j.entry.lane)) 1 pre s i (at_pre pre rest j s i e before a)
              (ap number_of first.owner ∙ ap (λ (x : ℕ). x + 1) l) own.nil
          | inr n ↦
              let q = good.quoted sp.pre sp.rest i sp.parts (omega arith) in
              let low = at_below sp.pre q.place q.item q.there in
              let size = sp.place in
              none_before fuel pre rest j q.place q.item e c own (omega arith) (omega arith)
              (at_whole sp.pre (i ∷ sp.rest) q.place q.item sp.parts q.there) (q.lane ∙ l)
        ]
  ]

  -- ---- the chain
  module _ (d : Journal) where
    pub quoted_at : (k : ℕ) (j : Journal) → At log k j → 0 < j.entry.prev →
        (j.entry.prev < suc k) × (lane_at log d j.entry.prev ≡ j.entry.lane)
        × ((item log d j.entry.prev).after ≡ j.course)
    quoted_at k j a pos =
        let sp = split_at log k j a in
        let q = good.quoted sp.pre sp.rest j sp.parts pos in
        let low = at_below sp.pre q.place q.item q.there in
        let size = sp.place in
        let t = q.ticket in
        let same : item log d j.entry.prev ≡ q.item =
        ap (item log d) q.ticket
        ∙ item_is log d q.place q.item (at_whole sp.pre (j ∷ sp.rest) q.place q.item sp.parts q.there) in
        (omega arith, ap (λ (x : Journal). x.entry.lane) same ∙ q.lane, ap (λ (x : Journal). x.after) same ∙ q.left)

    begins_chain : (s t : ℕ) (i j : Journal) → At log s i → At log t j → j.entry.prev ≡ 0 → s < t →
        i.entry.lane ≡ j.entry.lane → ⊥
    begins_chain s t i j ai aj z lt l = elim (cases_Bool (closing j)) [
      | inl closed ↦ absurd
          (let k = good.begins t j aj closed z s i ai (l ∙ good.closing_lane t j aj closed) in omega arith)
      | inr open_ ↦
          let sp = split_at log t j aj in
          let size = sp.place in
          none_before (suc s) sp.pre sp.rest j s i sp.parts open_ (own_first sp.pre sp.rest j sp.parts open_ z)
          (omega arith) (omega arith) ai l
    ]

    earlier_at : (t : ℕ) → 1 ≤ t → t ≤ length log → 0 < quote_at log d t → quote_at log d t < t
    earlier_at zero one le pos = absurd (omega arith)
    earlier_at (suc k) one le pos = (quoted_at k (item log d (suc k)) (item_there log d k le) pos).0

    same_at : (t : ℕ) → 1 ≤ t → t ≤ length log → 0 < quote_at log d t →
        lane_at log d (quote_at log d t) ≡ lane_at log d t
    same_at zero one le pos = absurd (omega arith)
    same_at (suc k) one le pos = (quoted_at k (item log d (suc k)) (item_there log d k le) pos).1

    once_at : (s t : ℕ) → 1 ≤ s → s ≤ length log → 1 ≤ t → t ≤ length log → 0 < quote_at log d s →
        quote_at log d s ≡ quote_at log d t → s ≡ t
    once_at zero t one le one' le' pos e = absurd (omega arith)
    once_at (suc s) zero one le one' le' pos e = absurd (omega arith)
    once_at (suc s) (suc t) one le one' le' pos e =
        ap suc
        (good.apart s t (item log d (suc s)) (item log d (suc t)) (item_there log d s le) (item_there log d t le')
        pos e)

    begins_at : (s t : ℕ) → 1 ≤ t → t ≤ length log → quote_at log d t ≡ 0 → 1 ≤ s → s < t →
        lane_at log d s ≡ lane_at log d t → ⊥
    begins_at zero t one le z one' lt e = absurd (omega arith)
    begins_at (suc s) zero one le z one' lt e = absurd (omega arith)
    begins_at (suc s) (suc t) one le z one' lt e =
        begins_chain s t (item log d (suc s)) (item log d (suc t)) (item_there log d s (omega arith))
        (item_there log d t le) z (omega arith) e

    pub quotes : Quotes (lane_at log d) (quote_at log d) (length log)
    quotes = record { earlier = earlier_at; same = same_at; once = once_at; begins = begins_at }
