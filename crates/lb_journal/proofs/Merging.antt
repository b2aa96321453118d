-- The entries of such a log are a legal history: by induction on the tickets, each may be added to the
-- machine that those before it leave.
-- For the lemmas of `Bridge`, and so for the laws `merge_is_run`, `closing_is_last` and others.
use Rattle.std.proofs.Common.{◌≡◌, ℕ, zero, suc, Bool, true, false, cond, Option, Some, None, List, [], ◌∷◌, ◌++◌, refl, sym, ◌∙◌, ap, subst, append_assoc, append-nil}
use Rattle.std.proofs.lemmas.Bool.{or_from}
use Rattle.std.proofs.lemmas.List.{map-append}
use Rattle.lb_trace.specs.declared.trace.Header.{Header}
use Rattle.lb_trace.specs.Accepted.{IsHeader}
use Rattle.lb_core.specs.declared.entry.What.{What}
use Rattle.lb_core.specs.declared.entry.Entry.{Entry}
use Rattle.lb_core.specs.declared.rule.Rule.{Rule}
use Rattle.lb_core.specs.declared.rule.Rule.TheVariants.{Ticket, Prev, Stage, Row as RowRule, Place as PlaceRule, Reply as ReplyRule, Version, Figure, Decision as DecisionRule, Pick, Flight, Counters as CountersRule, Owed, End as EndRule}
use Rattle.lb_core.specs.Machine.{MachineState, start}
use Rattle.lb_core.specs.Elsewhere.{breaks_elsewhere}
use Rattle.lb_core.specs.declared.entry.What.TheVariants.{End}
use mathlib.Core.Option.{some-ne-none, some-injective}
use Rattle.lb_core.specs.Step.{breaks, first_broken, after, ended_after}
use Rattle.lb_core.specs.Legal.{MayBeAdded, run, MayFollow, IsLegalFront, IsLegalHistory}
use Rattle.lb_core.specs.Placed.{IsPlaced, PlacedAlways}
use Rattle.lb_core.proofs.Next.{run-append}
use Rattle.lb_journal.specs.Journal.{Journal}
use Rattle.lb_journal.specs.Merge.{entries, is_end}
use Rattle.lb_journal.proofs.Good.{At, Good}
use Rattle.lb_journal.proofs.Agreement.{Agrees, agrees_start}
use Rattle.lb_journal.proofs.Stepping.{agrees_step}
use Rattle.lb_journal.proofs.Resting.{quotes_right, lane_right, owner_right, rest_right, row_right, version_right, figure_right, ended_right, end_right}
use Rattle.lb_journal.proofs.Using.{use_right, owed_right}
use Rattle.lb_journal.proofs.Standing.{here_right, place_right}

skip : {A : Type 0} (b : Bool) (r : A) (rest : Option A) → b ≡ false → rest ≡ None → cond b (Some r) rest ≡ None
skip true r rest e n = absurd (let k : ⊥ = cc in k)
skip false r rest e n = n

-- an entry that breaks no rule may be added
pub may_be_added : (m : MachineState) (e : Entry) → ((rule : Rule) → breaks m e rule ≡ false) → MayBeAdded m e
unfolding first_broken
may_be_added m e b =
    let s0 = skip (breaks m e EndRule) EndRule _ (b EndRule) refl in
    let s1 = skip (breaks m e Owed) Owed _ (b Owed) s0 in
    let s2 = skip (breaks m e CountersRule) CountersRule _ (b CountersRule) s1 in
    let s3 = skip (breaks m e Flight) Flight _ (b Flight) s2 in
    let s4 = skip (breaks m e Pick) Pick _ (b Pick) s3 in
    let s5 = skip (breaks m e DecisionRule) DecisionRule _ (b DecisionRule) s4 in
    let s6 = skip (breaks m e Figure) Figure _ (b Figure) s5 in
    let s7 = skip (breaks m e Version) Version _ (b Version) s6 in
    let s8 = skip (breaks m e ReplyRule) ReplyRule _ (b ReplyRule) s7 in
    let s9 = skip (breaks m e PlaceRule) PlaceRule _ (b PlaceRule) s8 in
    let s10 = skip (breaks m e RowRule) RowRule _ (b RowRule) s9 in
    let s11 = skip (breaks m e Stage) Stage _ (b Stage) s10 in
    skip (breaks m e Prev) Prev _ (b Prev) s11

module _ (placed : PlacedAlways) (h : Header) (closing : Journal → Bool) (log : List Journal)
    (good : Good h closing log) (ok : IsHeader h) (d : Journal) where
  elsewhere : (pre rest : List Journal) (j : Journal) (e : log ≡ pre ++ j ∷ rest) (m : MachineState) → Agrees h log d pre m →
      IsPlaced m → (rule : Rule) → breaks_elsewhere rule m j.entry ≡ false
  elsewhere pre rest j e m a p rule = elim rule as (λ x. breaks_elsewhere x m j.entry ≡ false) [
    | Ticket ↦ refl
    | Prev ↦ quotes_right h closing log good ok d pre rest j e m a
    | Stage ↦ or_from _ _
        (or_from _ _
        (or_from _ _ (lane_right h closing log good ok d pre rest j e m a)
        (owner_right h closing log good ok d pre rest j e m a))
        (rest_right h closing log good ok d pre rest j e m a))
        (use_right h closing log good ok d pre rest j e m a)
    | RowRule ↦ row_right h closing log good ok d pre rest j e m a
    | PlaceRule ↦ place_right h closing log good ok d pre rest j e m a p
    | ReplyRule ↦ refl
    | Version ↦ version_right h closing log good ok d pre rest j e m a
    | Figure ↦ figure_right h closing log good ok d pre rest j e m a
    | DecisionRule ↦ refl
    | Pick ↦ refl
    | Flight ↦ refl
    | CountersRule ↦ refl
    | Owed ↦ owed_right h closing log good ok d pre rest j e m a
    | EndRule ↦ or_from _ _ (ended_right h closing log good ok d pre rest j e m a)
        (end_right h closing log good ok d pre rest j e m a)
  ]

  next_may : (pre rest : List Journal) (j : Journal) (e : log ≡ pre ++ j ∷ rest) (m : MachineState) → Agrees h log d pre m →
      IsPlaced m → MayBeAdded m j.entry
  next_may pre rest j e m a p =
      may_be_added m j.entry
      (λ rule.
      or_from _ _ (here_right h closing log good ok d pre rest j e m a p rule) (elsewhere pre rest j e m a p rule))

  -- ---- the induction
  follow-append : (es fs : List Entry) (m : MachineState) → MayFollow es m → MayFollow fs (run es m) → MayFollow (es ++ fs) m
  follow-append [] fs m a b = b
  follow-append (x ∷ es) fs m a b = (a.0, follow-append es fs (after m x) a.1 b)

  -- what is known after a front
  record Reached (pre : List Journal) : Type 0 where
    front : IsLegalFront h (entries pre)
    agrees : Agrees h log d pre (run (entries pre) (start h))

  next : (pre rest : List Journal) (j : Journal) → log ≡ pre ++ j ∷ rest → Reached pre → Reached (pre ++ j ∷ [])
  next pre rest j e r =
      let m = run (entries pre) (start h) in
      let p : IsPlaced m = placed h (entries pre) ok r.front in
      let may = next_may pre rest j e m r.agrees p in
      let split : entries (pre ++ j ∷ []) ≡ entries pre ++ j.entry ∷ [] =
      map-append (λ (x : Journal). x.entry) pre (j ∷ []) in
      let there : run (entries (pre ++ j ∷ [])) (start h) ≡ after m j.entry =
      ap (λ (l : List Entry). run l (start h)) split ∙ run-append (entries pre) (j.entry ∷ []) (start h) in
      record {
        front =
            subst (λ (l : List Entry). MayFollow l (start h)) (sym split)
            (follow-append (entries pre) (j.entry ∷ []) (start h) r.front (may, tt));
        agrees =
            subst (Agrees h log d (pre ++ j ∷ [])) (sym there)
            (agrees_step h closing log good ok d pre rest j e m r.agrees);
      }

  reach : (pre rest : List Journal) → log ≡ pre ++ rest → Reached pre → Reached log
  reach pre [] e r = subst Reached (sym (e ∙ append-nil pre)) r
  reach pre (j ∷ rest) e r = reach (pre ++ j ∷ []) rest (e ∙ sym (append_assoc pre (j ∷ []) rest)) (next pre rest j e r)

  reached : Reached log
  reached = reach [] log refl (record { front = tt; agrees = agrees_start h log d })

  pub front_legal : IsLegalFront h (entries log)
  front_legal = reached.front

-- ---- the end
ended_stays : (w : What) (ended : Bool) → ended ≡ true → ended_after w ended ≡ true
ended_stays (End unserved) ended e = refl
ended_stays w ended e = e

ended_comes : (w : What) (ended : Bool) → is_end w ≡ true → ended_after w ended ≡ true
ended_comes (End unserved) ended e = refl
ended_comes w ended e = absurd (let k : ⊥ = cc in k)

after_stays : (m : MachineState) (e : Entry) → m.ended ≡ true → (after m e).ended ≡ true
unfolding after
after_stays m e o = ended_stays e.what m.ended o

after_comes : (m : MachineState) (e : Entry) → is_end e.what ≡ true → (after m e).ended ≡ true
unfolding after
after_comes m e o = ended_comes e.what m.ended o

run_stays : (log : List Journal) (m : MachineState) → m.ended ≡ true → (run (entries log) m).ended ≡ true
run_stays [] m o = o
run_stays (j ∷ log) m o = run_stays log (after m j.entry) (after_stays m j.entry o)

run_comes : (log : List Journal) (m : MachineState) (k : ℕ) (i : Journal) → At log k i → is_end i.entry.what ≡ true →
    (run (entries log) m).ended ≡ true
run_comes [] m k i a o = absurd (some-ne-none i (sym a))
run_comes (j ∷ log) m zero i a o =
    run_stays log (after m j.entry)
    (after_comes m j.entry (ap (λ (x : Journal). is_end x.entry.what) (some-injective j i a) ∙ o))
run_comes (j ∷ log) m (suc k) i a o = run_comes log (after m j.entry) k i a o

pub merge_good : PlacedAlways → (h : Header) (closing : Journal → Bool) (log : List Journal) → Good h closing log →
    IsHeader h → IsLegalHistory h (entries log)
merge_good placed h closing log good ok = (
  front_legal placed h closing log good ok good.end_item,
  run_comes log (start h) good.end_place good.end_item good.end_there good.end_is,
)
