-- What the premises of the merge law say of the log alone, at each place of it.
-- For the lemmas of `Agreement`, `Bridge` and other files, and so for the laws `merge_is_run`, `closing_is_last` and
-- others.
use Rattle.std.proofs.Common.{◌≡◌, ℕ, suc, ◌-◌, ◌<◌, ◌≤◌, Bool, true, false, not, ◌&&◌, leb, ltb, List, [], ◌∷◌, ◌++◌, length, map, get_or, Option, Some, None, is_some, find}
use Rattle.std.specs.List.{range_with_len, list_any}
use Rattle.lb_base.specs.declared.mask.Mask.{Mask}
use Rattle.lb_base.specs.Sets.{mask_where}
use Rattle.lb_queue.specs.Requests.{has_pending}
use Rattle.lb_queue.specs.Queue.{QueueState}
use Rattle.lb_trace.specs.declared.trace.Header.{Header}
use Rattle.lb_core.specs.declared.course.Form.TheVariants.{Rest}
use Rattle.lb_core.specs.declared.entry.CpuFig.{CpuFig}
use Rattle.lb_core.specs.declared.entry.FigName.{FigName}
use Rattle.lb_core.specs.declared.entry.Owner.{Owner}
use Rattle.lb_core.specs.declared.entry.Owner.TheVariants.{Queue}
use Rattle.lb_core.specs.declared.entry.What.{What}
use Rattle.lb_core.specs.declared.entry.What.TheVariants.{Adopt, Look, Scan, End, Out, Landed}
use Rattle.lb_core.specs.Same.{same_mask}
use mathlib.Core.Option.{some}
use lib.ListN.{get_elem?}
use Rattle.lb_journal.specs.Journal.{Journal, Fits, number_of, replay, meaning_of_journal}
use Rattle.lb_journal.specs.Merge.{both_tick, closing_out, is_end, figure_after, versions_of}
use Rattle.lb_ticket.proofs.Logs.{owned_from}

-- the items of the owner with a number, with their tickets
abbrev pub items_of : ℕ → List Journal → List (ℕ × Journal)
items_of k log = owned_from meaning_of_journal k 1 log

-- the items of a CPU's queue
abbrev pub queue_items : ℕ → List Journal → List (ℕ × Journal)
queue_items cpu log = items_of (number_of (Queue cpu)) log

-- the item at a place, whose ticket is one more
abbrev pub At : List Journal → ℕ → Journal → Type 0
At log k j = get_elem? log k ≡ some j

pub record IsQuoted (pre : List Journal) (j : Journal) : Type 0 where
  pub place : ℕ
  pub item : Journal
  pub ticket : j.entry.prev ≡ suc place
  pub there : At pre place item
  pub left : item.after ≡ j.course
  pub lane : item.entry.lane ≡ j.entry.lane

-- ---- the queues after the items of a front of the log
abbrev pub queue_in : Header → List Journal → ℕ → QueueState
queue_in h pre cpu = replay h cpu (queue_items cpu pre)

abbrev pub pending_in : Header → List Journal → Option ℕ
pending_in h pre = find (λ cpu. has_pending (queue_in h pre cpu)) (range_with_len 0 (length h.cpus))

abbrev pub unserved_in : Header → List Journal → Mask
unserved_in h pre = mask_where (λ cpu. ltb cpu (length h.cpus) && is_some (queue_in h pre cpu).active)

abbrev pub ClosesIn : Header → List Journal → What → Owner → Type 0
ClosesIn h pre (Out cause to tasks) (Queue cpu) = pending_in h pre ≡ Some cpu
ClosesIn h pre (End unserved) owner = (pending_in h pre ≡ None) × (same_mask unserved (unserved_in h pre) ≡ true)
ClosesIn h pre w owner = Unit {0}

-- ---- what items carry
abbrev pub figures_in : Header → List Journal → List FigName → List CpuFig
figures_in h log names = map (λ f. record { cpu = f.cpu; fig = figure_after h f.cpu (queue_items f.cpu log) f.n }) names

pub record ReadsIn (h : Header) (log pre : List Journal) (j : Journal) (names : List FigName) : Type 0 where
  pub figs : j.figs ≡ figures_in h log names
  pub earlier : list_any (λ f. not (leb f.n (length (queue_items f.cpu pre)))) names ≡ false

abbrev pub CarriesIn : Header → List Journal → List Journal → Journal → What → Type 0
CarriesIn h log pre j (Look p x names d) = ReadsIn h log pre j names
CarriesIn h log pre j (Scan names t) = ReadsIn h log pre j names
CarriesIn h log pre j w = Unit {0}

pub record MasksIn (h : Header) (log pre : List Journal) (j : Journal) (version : ℕ) : Type 0 where
  pub masks : j.masks ≡ get_or (versions_of h (items_of 0 log)) (version - 1) []
  pub earlier : version ≤ length (versions_of h (items_of 0 pre))

abbrev pub VersionIn : Header → List Journal → List Journal → Journal → What → Type 0
VersionIn h log pre j (Adopt version kind cpu) = MasksIn h log pre j version
VersionIn h log pre j w = Unit {0}

-- only an `out`, an `in` or the end closes
abbrev pub may_close : What → Bool
may_close (Out cause to tasks) = true
may_close (Landed tasks) = true
may_close (End unserved) = true
may_close w = false

-- ---- all of it
-- what makes the entries of each lane one chain
pub record Linked (closing : Journal → Bool) (log : List Journal) : Type 0 where
  pub fits : (pre rest : List Journal) (j : Journal) → log ≡ pre ++ j ∷ rest →
      Fits (items_of (number_of j.entry.owner) pre) j
  pub quoted : (pre rest : List Journal) (j : Journal) → log ≡ pre ++ j ∷ rest → 0 < j.entry.prev → IsQuoted pre j
  pub apart : (s t : ℕ) (i j : Journal) → At log s i → At log t j → 0 < i.entry.prev → i.entry.prev ≡ j.entry.prev →
      s ≡ t
  pub out_closes : (j : Journal) → closing_out j ≡ true → closing j ≡ true
  pub closing_lane : (k : ℕ) (j : Journal) → At log k j → closing j ≡ true → j.entry.lane ≡ 0
  pub closing_last : (s t : ℕ) (i j : Journal) → At log s i → At log t j → closing i ≡ false → closing j ≡ true → s < t
  pub begins : (t : ℕ) (j : Journal) → At log t j → closing j ≡ true → j.entry.prev ≡ 0 → (s : ℕ) (i : Journal) →
      At log s i → i.entry.lane ≡ 0 → t ≤ s

pub record Good (h : Header) (closing : Journal → Bool) (log : List Journal) : Type 0 where
  pub link : Linked closing log
  pub open link use *
  pub header : (k : ℕ) (j : Journal) → At log k j → j.header ≡ h
  pub ticks : (s t : ℕ) (i j : Journal) → At log s i → At log t j → both_tick i j ≡ true → i.entry.lane ≡ j.entry.lane
  pub end_closes : (j : Journal) → is_end j.entry.what ≡ true → closing j ≡ true
  pub closing_kind : (j : Journal) → closing j ≡ true → may_close j.entry.what ≡ true
  pub at_rest : (k : ℕ) (j : Journal) → At log k j → closing j ≡ false →
      ((s : ℕ) (i : Journal) → At log s i → closing i ≡ false → i.entry.lane ≡ j.entry.lane → s ≤ k) →
      j.after.form ≡ Rest
  pub closes : (pre rest : List Journal) (j : Journal) → log ≡ pre ++ j ∷ rest → closing j ≡ true →
      ClosesIn h pre j.entry.what j.entry.owner
  pub figures : (pre rest : List Journal) (j : Journal) → log ≡ pre ++ j ∷ rest → CarriesIn h log pre j j.entry.what
  pub masks : (pre rest : List Journal) (j : Journal) → log ≡ pre ++ j ∷ rest → VersionIn h log pre j j.entry.what
  -- the end is there
  pub end_place : ℕ
  pub end_item : Journal
  pub end_there : At log end_place end_item
  pub end_is : is_end end_item.entry.what ≡ true
