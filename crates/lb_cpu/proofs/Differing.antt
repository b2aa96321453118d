-- The ids of tasks differ where each lacks among those after it.
-- For `differ`.
use Rattle.std.proofs.Common.{ℕ, ◌≡◌, ◌≤◌, ◌==◌, Bool, true, false, not, List, [], ◌∷◌, arith, refl}
use Rattle.std.specs.List.{list_all}
use Rattle.std.proofs.lemmas.Bool.{and_parts}
use Rattle.lb_queue.specs.declared.record.TaskRecord.{TaskRecord}
use Rattle.lb_queue.specs.Tasks.{ids, occurs}

-- no id stands twice
abbrev pub Differ : List TaskRecord → Type 0
Differ ts = (id : ℕ) → occurs id (ids ts) ≤ 1

pub lacks_is : (ts : List TaskRecord) (id : ℕ)
    → list_all (λ (t : TaskRecord). not (t.id == id)) ts ≡ true → occurs id (ids ts) ≡ 0
lacks_is [] id all = refl
lacks_is (t ∷ ts) id all =
    let p = and_parts (not (t.id == id)) _ all in
    let rest = lacks_is ts id p.1 in
    grind (arith, p, rest)

pub front : (t : TaskRecord) (ts : List TaskRecord) → list_all (λ (u : TaskRecord). not (u.id == t.id)) ts ≡ true → Differ ts
    → Differ (t ∷ ts)
front t ts all differ id =
    by_case (t.id == id) refl
  where
    by_case : (b : Bool) → (t.id == id) ≡ b → occurs id (ids (t ∷ ts)) ≤ 1
    by_case true e = let none = lacks_is ts t.id all in grind (arith, e, none)
    by_case false e = let rest = differ id in grind (arith, e, rest)
