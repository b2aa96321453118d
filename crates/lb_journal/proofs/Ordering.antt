-- The slots of a closed book, once all entries are in them, hold the entries of the log.
-- For `close_in_order`, `in_order` and `place_all`.
use Rattle.std.proofs.Common.{◌≡◌, ℕ, zero, suc, ◌+◌, ◌-◌, ◌<◌, Option, Some, None, Result, Ok, Err, IfOk, List, [], ◌∷◌, length, get_or, set, map, refl, sym, ◌∙◌, ap, subst, arith, inl, inr, All, get_or-set_same, get_or-set_other}
use Rattle.std.proofs.lemmas.Bool.{cases_eq}
use Rattle.std.proofs.lemmas.List.{length-set, length-map, get_or-map, get_or_default}
use mathlib.Core.Option.{some-injective}
use lib.ListN.{get_elem?}
use Rattle.lb_core.specs.declared.entry.Entry.{Entry}
use Rattle.lb_ticket.specs.declared.item.Drawn.{Drawn}
use Rattle.lb_ticket.specs.Tickets.{Closes, AllStand, Stands, total, pair}
use base.Stored.{Coded}
use Rattle.lb_trace.specs.declared.trace.Trace.{Trace}
use Rattle.lb_trace.specs.Accepted.{IsTrace}
use Rattle.lb_core.specs.OfTrace.{IsHistoryOf}
use Rattle.lb_ticket.specs.Seats.{SeatIs, all_facts}
use Rattle.lb_ticket.specs.Facts.{AllUnquoted, AllDrawn}
use Rattle.lb_journal.specs.Owners.{lists_of, KeptByOwners, OwnersMerge}
use Rattle.lb_journal.specs.Journal.{Journal, Left, meaning_of_journal}
use Rattle.lb_journal.specs.Merge.{entries}
use Rattle.lb_journal.specs.Ordering.{placed, placed_lists, HaveSlots, somes, total_length}
use Rattle.lb_journal.specs.Journal.{number_of}
use Rattle.lb_ticket.proofs.Logs.{at_below, list_fits}
use Rattle.lb_journal.proofs.Bridge.{lists_items, owned_place}
use Rattle.lb_journal.proofs.Good.{At}

pub placed-length : (ds : List (Drawn Journal)) (slots : List (Option Entry)) → length (placed ds slots) ≡ length slots
placed-length [] slots = refl
placed-length (d ∷ ds) slots =
    placed-length ds (set slots (d.ticket - 1) (Some d.item.entry))
    ∙ length-set slots (d.ticket - 1) (Some d.item.entry)

-- ---- which slots hold their entry
RightAt : List Journal → List (Option Entry) → ℕ → Type 0
RightAt log slots k = (j : Journal) → At log k j → get_or slots k None ≡ Some j.entry

set_right : (log : List Journal) (d : Drawn Journal) (slots : List (Option Entry)) (k : ℕ) → Stands log d →
    length slots ≡ length log → d.ticket ≡ suc k → RightAt log (set slots (d.ticket - 1) (Some d.item.entry)) k
unfolding RightAt
set_right log d slots k st n e j a =
    let t = st.1 in
    let low = at_below log k j a in
    let place : st.0 ≡ k = omega arith in
    let same : d.item ≡ j = some-injective d.item j (sym st.2 ∙ ap (get_elem? log) place ∙ a) in
    let slot : d.ticket - 1 ≡ k = omega arith in
    ap (λ (x : ℕ). get_or (set slots x (Some d.item.entry)) k None) slot
    ∙ get_or-set_same slots k (Some d.item.entry) None (omega arith) ∙ ap (λ (x : Journal). Some x.entry) same

set_keeps : (log : List Journal) (d : Drawn Journal) (slots : List (Option Entry)) (k : ℕ) → Stands log d →
    length slots ≡ length log → RightAt log slots k → RightAt log (set slots (d.ticket - 1) (Some d.item.entry)) k
unfolding RightAt
set_keeps log d slots k st n r j a = elim (cases_eq d.ticket (suc k)) [
  | inl e ↦ set_right log d slots k st n e j a
  | inr ne ↦ get_or-set_other slots (d.ticket - 1) k (Some d.item.entry) None (λ x. ne (let t = st.1 in omega arith))
      ∙ r j a
]

placed_keeps : (log : List Journal) (ds : List (Drawn Journal)) (slots : List (Option Entry)) (k : ℕ) →
    AllStand log ds →
    length slots ≡ length log → RightAt log slots k → RightAt log (placed ds slots) k
placed_keeps log [] slots k s n r = r
placed_keeps log (d ∷ ds) slots k s n r =
    placed_keeps log ds (set slots (d.ticket - 1) (Some d.item.entry)) k s.1
    (length-set slots (d.ticket - 1) (Some d.item.entry) ∙ n) (set_keeps log d slots k s.0 n r)

placed_right : (log : List Journal) (ds : List (Drawn Journal)) (slots : List (Option Entry)) (k q : ℕ) (x : Drawn Journal) →
    AllStand log ds → length slots ≡ length log → q < length ds → (get_or ds q x).ticket ≡ suc k →
    RightAt log (placed ds slots) k
placed_right log [] slots k q x s n lt e = absurd (omega arith)
placed_right log (d ∷ ds) slots k zero x s n lt e =
    placed_keeps log ds (set slots (d.ticket - 1) (Some d.item.entry)) k s.1
    (length-set slots (d.ticket - 1) (Some d.item.entry) ∙ n) (set_right log d slots k s.0 n e)
placed_right log (d ∷ ds) slots k (suc q) x s n lt e =
    placed_right log ds (set slots (d.ticket - 1) (Some d.item.entry)) k q x s.1
    (length-set slots (d.ticket - 1) (Some d.item.entry) ∙ n) (omega arith) e

-- ---- all lists
AllListsStand : List Journal → List (List (Drawn Journal)) → Type 0
AllListsStand log lists = (k : ℕ) → AllStand log (get_or lists k [])

lists_keep : (log : List Journal) (lists : List (List (Drawn Journal))) (slots : List (Option Entry)) (k : ℕ) →
    AllListsStand log lists → length slots ≡ length log → RightAt log slots k → RightAt log (placed_lists lists slots) k
unfolding AllListsStand
lists_keep log [] slots k s n r = r
lists_keep log (ds ∷ lists) slots k s n r =
    lists_keep log lists (placed ds slots) k (λ i. s (suc i)) (placed-length ds slots ∙ n)
    (placed_keeps log ds slots k (s 0) n r)

lists_right : (log : List Journal) (lists : List (List (Drawn Journal))) (slots : List (Option Entry)) (k o q : ℕ)
    (x : Drawn Journal) →
    AllListsStand log lists → length slots ≡ length log → q < length (get_or lists o []) →
    (get_or (get_or lists o []) q x).ticket ≡ suc k → RightAt log (placed_lists lists slots) k
unfolding AllListsStand
lists_right log [] slots k o q x s n lt e = absurd (omega arith)
lists_right log (ds ∷ lists) slots k zero q x s n lt e =
    lists_keep log lists (placed ds slots) k (λ i. s (suc i)) (placed-length ds slots ∙ n)
    (placed_right log ds slots k q x (s 0) n lt e)
lists_right log (ds ∷ lists) slots k (suc o) q x s n lt e =
    lists_right log lists (placed ds slots) k o q x (λ i. s (suc i)) (placed-length ds slots ∙ n) lt e

pub lists-length : (lists : List (List (Drawn Journal))) (slots : List (Option Entry)) →
    length (placed_lists lists slots) ≡ length slots
lists-length [] slots = refl
lists-length (ds ∷ lists) slots = lists-length lists (placed ds slots) ∙ placed-length ds slots

somes_are : (log : List Journal) (slots : List (Option Entry)) → length slots ≡ length log →
    ((k : ℕ) (j : Journal) → At log k j → get_or slots k None ≡ Some j.entry) → somes slots ≡ entries log
somes_are [] [] n r = refl
somes_are [] (s ∷ slots) n r = absurd (omega arith)
somes_are (i ∷ log) [] n r = absurd (omega arith)
somes_are (i ∷ log) (s ∷ slots) n r =
    let rec = somes_are log slots (omega arith) (λ k j a. r (suc k) j a) in
    let here : s ≡ Some i.entry = r 0 i refl in
    ap (λ (x : Option Entry). somes (x ∷ slots)) here ∙ ap (λ (l : List Entry). i.entry ∷ l) rec

total_is : (lists : List (List (Drawn Journal))) →
    total_length lists ≡ total (λ (ds : List (Drawn Journal)). length ds) lists
total_is [] = refl
total_is (ds ∷ lists) = omega (arith, total_is lists)

have_slots : (log : List Journal) (ds : List (Drawn Journal)) → AllStand log ds → HaveSlots (length log) ds
have_slots log [] s k x lt = absurd (omega arith)
have_slots log (d ∷ ds) s zero x lt =
    let t = s.0.1 in let low = at_below log s.0.0 d.item s.0.2 in (omega arith, omega arith)
have_slots log (d ∷ ds) s (suc k) x lt = have_slots log ds s.1 k x (omega arith)

module _ (lists : List (List (Drawn Journal))) (book : Closes meaning_of_journal lists) where
  stand : AllListsStand book.log lists
  unfolding AllListsStand
  stand k = (list_fits meaning_of_journal lists book k).stand

  pub count_is : total_length lists ≡ length book.log
  count_is = total_is lists ∙ book.count

  pub all_have_slots : (slots : List (Option Entry)) → length slots ≡ total_length lists →
      All (HaveSlots (length slots)) lists
  unfolding AllListsStand
  all_have_slots slots n k ds lt =
      let f = stand k in
      subst (λ (m : ℕ). HaveSlots m (get_or lists k ds)) (sym (n ∙ count_is))
      (subst (λ (l : List (Drawn Journal)). HaveSlots (length book.log) l) (get_or_default lists k [] ds lt)
      (have_slots book.log (get_or lists k []) f))

  right : (slots : List (Option Entry)) → length slots ≡ total_length lists → (k : ℕ) (j : Journal) → At book.log k j →
      get_or (placed_lists lists slots) k None ≡ Some j.entry
  unfolding RightAt
  right slots n k j a =
      let o = number_of j.entry.owner in
      let ds = get_or lists o [] in
      let d : ℕ × Journal = (suc k, j) in
      let x : Drawn Journal = record { ticket = suc k; item = j } in
      let r = owned_place o 1 book.log k j d a refl in
      let items = lists_items lists book o in
      let long = length-map ds pair in
      let size = ap length items in
      let lt = r.1 in
      let is : get_or (map pair ds) r.0 d ≡ (1 + k, j) = ap (λ (l : List (ℕ × Journal)). get_or l r.0 d) items ∙ r.2 in
      let at_ds : get_or (map pair ds) r.0 d ≡ pair (get_or ds r.0 x) = get_or-map pair ds r.0 x d (omega arith) in
      let ticket : (get_or ds r.0 x).ticket ≡ suc k =
      ap (λ (y : ℕ × Journal). y.0) (sym at_ds ∙ is) ∙ (let e : 1 + k ≡ suc k = omega arith in e) in
      lists_right book.log lists slots k o r.0 x stand (n ∙ count_is) (omega arith) ticket j a

  pub in_order_is : (slots : List (Option Entry)) → length slots ≡ total_length lists →
      somes (placed_lists lists slots) ≡ entries book.log
  in_order_is slots n =
      somes_are book.log (placed_lists lists slots) (lists-length lists slots ∙ n ∙ count_is) (right slots n)

-- where a clause bounds what is answered, another that follows
pub if_ok_more : {A E : Type 0} (r : Result A E) (P Q : A → Type 0) → ((x : A) → P x → Q x) → IfOk r P → IfOk r Q
if_ok_more (Ok x) P Q f h = f x h
if_ok_more (Err e) P Q f h = tt

pub in_order_at : (lists same : List (List (Drawn Journal))) (book : Closes meaning_of_journal lists)
    (slots : List (Option Entry)) →
    same ≡ lists → length slots ≡ total_length same → somes (placed_lists same slots) ≡ entries book.log
in_order_at lists same book slots e n =
    ap (λ (l : List (List (Drawn Journal))). somes (placed_lists l slots)) e
    ∙ in_order_is lists book slots (n ∙ ap total_length e)

-- what the owners keep gives a history of the trace, for the lists that the closing of a book answers
pub history_of : OwnersMerge →
    (t : Trace) (code : Coded Journal) (left : Coded Left) (seats : List (SeatIs Journal)) (cut : ℕ)
    (lists : List (List (Drawn Journal))) → lists ≡ lists_of seats → (book : Closes meaning_of_journal lists) →
    AllUnquoted meaning_of_journal left (all_facts seats) lists → All (λ s. AllDrawn code s.read lists) seats →
    IsTrace t → KeptByOwners t code left seats cut →
    IsHistoryOf t (record { header = t.header; entries = entries book.log })
history_of law t code left seats cut lists e =
    subst
    (λ (l : List (List (Drawn Journal))). (book : Closes meaning_of_journal l) →
    AllUnquoted meaning_of_journal left (all_facts seats) l →
    All (λ s. AllDrawn code s.read l) seats → IsTrace t → KeptByOwners t code left seats cut →
    IsHistoryOf t (record { header = t.header; entries = entries book.log }))
    (sym e)
    (λ book unquoted drawn ok k. (law t code left seats cut ok book unquoted drawn k).1)
