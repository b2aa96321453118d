-- Where the count stands after some entries, and one entry more.
-- For `Summary::of`.
use Rattle.std.proofs.Common.{arith, ◌≡◌, ℕ, suc, ◌+◌, ◌^◌, ◌<◌, ◌≤◌, true, List, [], ◌∷◌, length, drop, get_or, refl, sym, ◌∙◌, ap, subst, add-one, drop-cons}
use Rattle.std.proofs.lemmas.Bool.{and_parts}
use Rattle.lb_trace.specs.Accepted.{IsHeader}
use Rattle.lb_core.specs.declared.entry.Entry.{Entry}
use Rattle.lb_core.specs.declared.history.History.{History}
use Rattle.lb_core.specs.Legal.{MayBeAdded, MayFollow, IsLegalFront}
use Rattle.lb_core.specs.Machine.{MachineState, start}
use Rattle.lb_core.specs.Ranges.{what_fits, entry_fits, fit_from, entries_fit}
use Rattle.lb_core.specs.Step.{after}
use Rattle.lb_ready.specs.Laws.{OpensReady, StaysReady, ReadsInRange}
use Rattle.lb_ready.specs.Ready.{IsReady}
use Rattle.lb_summary.specs.declared.summary.Summary.{Summary}
use Rattle.lb_summary.specs.Summary.{steps_from, steps_of, level_balanced, summary_of}
use Rattle.lb_summary.specs.Counting.{counting, AreAtMost, MayCount}
use Rattle.lb_summary.proofs.Leaving.{may_count}
use Rattle.lb_summary.proofs.Counted.{plus, one_more, at_most, says_fit, step_ready, all_may_count}

-- so much is counted, the machine is this one, and these entries are left, the first of them at ticket n
pub record IsCounting (total s : Summary) (m : MachineState) (n : ℕ) (rest : List Entry) : Type 0 where
  pub ready : IsReady m
  pub follows : MayFollow rest m
  pub fit : fit_from n rest ≡ true
  pub counted : plus s (summary_of (steps_from m rest)) ≡ total

-- ---- one entry more
-- it may be counted, and taken; and then the count stands so
pub record Goes (total s : Summary) (m : MachineState) (n : ℕ) (e : Entry) (rest : List Entry) : Type 0 where
  pub may : MayCount e.what m e.lane
  pub fits : what_fits e.what ≡ true
  pub added : MayBeAdded m e
  pub next : IsCounting total (counting e.what (level_balanced m e.lane) s) (after m e) (n + 1) rest

pub goes : StaysReady → ReadsInRange → (total s : Summary) (m : MachineState) (n : ℕ) (e : Entry) (rest : List Entry)
    → IsCounting total s m n (e ∷ rest) → Goes total s m n e rest
goes stays reads total s m n e rest k =
    let f = and_parts (entry_fits n e) _ k.fit in
    let later = step_ready stays reads m e n k.ready k.follows.0 f.0 in
    record {
      may = may_count m e.owner e.lane e.prev e.what k.ready k.follows.0 later;
      fits = says_fit n e f.0;
      added = k.follows.0;
      next = record {
        ready = later;
        follows = k.follows.1;
        fit = f.1;
        counted = one_more s (record { before = m; entry = e }) (steps_from (after m e) rest) ∙ k.counted;
      };
    }

-- so for the entry at a place of a list
pub goes_at : StaysReady → ReadsInRange → (total s : Summary) (m : MachineState) (i : ℕ) (e : Entry) (items es : List Entry)
    → items ≡ es → IsCounting total s m (i + 1) (drop i es) → i < length items → e ≡ get_or items i e
    → Goes total s m (i + 1) e (drop (i + 1) es)
goes_at stays reads total s m i e items es same k lt is =
    let there : i < length es = subst (λ (xs : List Entry). i < length xs) same lt in
    let at : get_or es i e ≡ e = sym (is ∙ ap (λ (xs : List Entry). get_or xs i e) same) in
    let split : drop i es ≡ e ∷ drop (i + 1) es = rw (add-one, drop-cons es i e) (ap (λ (x : Entry). x ∷ drop (suc i) es) at) in
    goes stays reads total s m (i + 1) e (drop (i + 1) es) (subst (IsCounting total s m (i + 1)) split k)

-- where the code has counted it and has taken the step
pub goes_on : (total s t : Summary) (m k : MachineState) (n : ℕ) (e : Entry) (rest : List Entry) → Goes total s m n e rest
    → t ≡ counting e.what (level_balanced m e.lane) s → k ≡ after m e → IsCounting total t k (n + 1) rest
goes_on total s t m k n e rest g counted taken =
    subst (λ (x : Summary). IsCounting total x k (n + 1) rest) (sym counted)
    (subst (λ (x : MachineState). IsCounting total (counting e.what (level_balanced m e.lane) s) x (n + 1) rest)
    (sym taken) g.next)

-- ---- how large the numbers are
pub few_in_all : OpensReady → StaysReady → ReadsInRange → (h : History) → IsHeader h.header → IsLegalFront h.header h.entries
    → entries_fit h.entries ≡ true → length h.entries < 2 ^ 40 → AreAtMost (2 ^ 62) (summary_of (steps_of h))
few_in_all opens stays reads h header legal fit few =
    let all = all_may_count stays reads (start h.header) h.entries 1 (opens h.header header) legal fit in
    let k = at_most (start h.header) h.entries all in
    record {
      rows = (let n = k.rows in omega arith);
      entries = (let n = k.entries in omega arith);
      pulled_smt = (let n = k.pulled_smt in omega arith);
      pulled_mc = (let n = k.pulled_mc in omega arith);
      pulled_pkg = (let n = k.pulled_pkg in omega arith);
      pulled_numa = (let n = k.pulled_numa in omega arith);
      pushed = (let n = k.pushed in omega arith);
      stopped = (let n = k.stopped in omega arith);
    }

no_more : (f : Summary → ℕ) (a b t : Summary) (most : ℕ) → plus a b ≡ t → f (plus a b) ≡ f a + f b → f t ≤ most → f a ≤ most
no_more f a b t most e sum h = let k = ap f e in omega arith

-- what is counted so far is no more than all of it
pub few_so_far : (a b total : Summary) (most : ℕ) → plus a b ≡ total → AreAtMost most total → AreAtMost most a
few_so_far a b total most e h = record {
  rows = no_more (λ s. s.rows) a b total most e refl h.rows;
  entries = no_more (λ s. s.entries) a b total most e refl h.entries;
  pulled_smt = no_more (λ s. s.pulled_smt) a b total most e refl h.pulled_smt;
  pulled_mc = no_more (λ s. s.pulled_mc) a b total most e refl h.pulled_mc;
  pulled_pkg = no_more (λ s. s.pulled_pkg) a b total most e refl h.pulled_pkg;
  pulled_numa = no_more (λ s. s.pulled_numa) a b total most e refl h.pulled_numa;
  pushed = no_more (λ s. s.pushed) a b total most e refl h.pushed;
  stopped = no_more (λ s. s.stopped) a b total most e refl h.stopped;
}

-- ---- the end
-- where no entry is left, all is counted
pub all_counted : (s : Summary) (rest : List Entry) (m : MachineState) (total : Summary) → rest ≡ []
    → plus s (summary_of (steps_from m rest)) ≡ total → s ≡ total
unfolding summary_of
all_counted s rest m total none k =
    let same : plus s (summary_of []) ≡ s = λ t. record {
      rows = nothing s.rows t;
      entries = nothing s.entries t;
      pulled_smt = nothing s.pulled_smt t;
      pulled_mc = nothing s.pulled_mc t;
      pulled_pkg = nothing s.pulled_pkg t;
      pulled_numa = nothing s.pulled_numa t;
      pushed = nothing s.pushed t;
      stopped = nothing s.stopped t;
    } in
    sym same ∙ ap (λ (x : List Entry). plus s (summary_of (steps_from m x))) (sym none) ∙ k
  where
    nothing : (n : ℕ) → n + 0 ≡ n
    nothing n = omega arith
