-- Rows that tick one CPU are of one lane, and stay so with a row more.
-- For the lemmas of `SoundRows`, and so for the law `accepted`.
use Rattle.std.proofs.Common.{◌≡◌, ℕ, Bool, true, false, ◌&&◌, ◌||◌, not, ◌==◌, List, [], ◌∷◌, ◌++◌, refl, sym, inl, inr}
use Rattle.std.specs.List.{list_all, list_any}
use Rattle.std.proofs.lemmas.Bool.{and_parts, and_from, and_cases, or_parts, or_right, eqb-true, eqb-false, eq-eqb, ne_eqb, not-false}
use Rattle.lb_trace.specs.declared.trace.Command.{Command}
use Rattle.lb_trace.specs.declared.trace.Command.TheVariants as commands
use Rattle.lb_trace.specs.declared.trace.Row.{Row}
use Rattle.lb_trace.specs.Naming.{ticks_cpu, ticks_beside}
use Rattle.lb_trace.specs.Accepted.{both_tick, agree, ticks_agree}
use Rattle.lb_trace.proofs.SoundLists.{all_push}

-- a row agrees with each of these, and each of them with it
pub record Agrees (row : Row) (rows : List Row) : Type 0 where
  pub with_each : list_all (agree row) rows ≡ true
  pub by_each : list_all (λ other. agree other row) rows ≡ true

pub agrees_none : (row : Row) → Agrees row []
agrees_none row = record { with_each = refl; by_each = refl }

pub agrees_more : (row other : Row) (rows : List Row) → agree row other ≡ true → agree other row ≡ true
    → Agrees row rows → Agrees row (other ∷ rows)
agrees_more row other rows one back rest = record
    { with_each = and_from _ _ one rest.with_each; by_each = and_from _ _ back rest.by_each }

-- ---- a row that is no tick
abbrev pub is_tick : Command → Bool
is_tick (commands.Tick cpu) = true
is_tick command = false

no_tick : (cpu : ℕ) (command : Command) → is_tick command ≡ false → ticks_cpu cpu command ≡ false
no_tick cpu (commands.Tick other) e = absurd (cc)
no_tick cpu (commands.Wake task) e = refl
no_tick cpu (commands.Sleep task) e = refl
no_tick cpu (commands.Exit task) e = refl
no_tick cpu (commands.SetMask task mask) e = refl
no_tick cpu (commands.Nice task nice) e = refl
no_tick cpu (commands.Rebuild parts) e = refl

not_both : (command other : Command) → is_tick other ≡ false → both_tick command other ≡ false
not_both (commands.Tick cpu) other e = no_tick cpu other e
not_both (commands.Wake task) other e = refl
not_both (commands.Sleep task) other e = refl
not_both (commands.Exit task) other e = refl
not_both (commands.SetMask task mask) other e = refl
not_both (commands.Nice task nice) other e = refl
not_both (commands.Rebuild parts) other e = refl

not_first : (command other : Command) → is_tick command ≡ false → both_tick command other ≡ false
not_first (commands.Tick cpu) other e = absurd (cc)
not_first (commands.Wake task) other e = refl
not_first (commands.Sleep task) other e = refl
not_first (commands.Exit task) other e = refl
not_first (commands.SetMask task mask) other e = refl
not_first (commands.Nice task nice) other e = refl
not_first (commands.Rebuild parts) other e = refl

pub quiet_agrees : (row : Row) (rows : List Row) → is_tick row.command ≡ false → Agrees row rows
quiet_agrees row [] quiet = agrees_none row
quiet_agrees row (other ∷ rows) quiet =
    agrees_more row other rows (rw (not_first row.command other.command quiet) refl)
    (rw (not_both other.command row.command quiet) refl) (quiet_agrees row rows quiet)

-- ---- a tick of a CPU that no other lane ticked
not_so : (test lane : Bool) → test ≡ false → (not test || lane) ≡ true
not_so test lane e = rw e refl

tick_agree : (cpu lane other : ℕ) (command : Command) → (ticks_cpu cpu command && not (other == lane)) ≡ false
    → ((not (ticks_cpu cpu command) || lane == other) ≡ true) ×
    ((not (both_tick command (commands.Tick cpu)) || other == lane) ≡ true)
tick_agree cpu lane other (commands.Tick ticked) beside = elim (and_cases (ticked == cpu) (not (other == lane)) beside) [
  | inl different ↦ (not_so _ _ different, not_so _ _ (ne_eqb cpu ticked (λ same. eqb-false ticked cpu different (sym same))))
  | inr not_beside ↦ let same = eqb-true other lane (not-false _ not_beside) in
      (or_right _ _ (eq-eqb lane other (sym same)), or_right _ _ (eq-eqb other lane same))
]
tick_agree cpu lane other (commands.Wake task) beside = (refl, refl)
tick_agree cpu lane other (commands.Sleep task) beside = (refl, refl)
tick_agree cpu lane other (commands.Exit task) beside = (refl, refl)
tick_agree cpu lane other (commands.SetMask task mask) beside = (refl, refl)
tick_agree cpu lane other (commands.Nice task nice) beside = (refl, refl)
tick_agree cpu lane other (commands.Rebuild parts) beside = (refl, refl)

pub tick_agrees : (cpu at lane : ℕ) (rows : List Row) → list_any (ticks_beside cpu lane) rows ≡ false
    → Agrees (record { lane = lane; at = at; command = commands.Tick cpu }) rows
tick_agrees cpu at lane [] beside = agrees_none _
tick_agrees cpu at lane (other ∷ rows) beside =
    let parts = or_parts _ _ beside in
    let one = tick_agree cpu lane other.lane other.command parts.0 in
    agrees_more _ other rows one.0 one.1 (tick_agrees cpu at lane rows parts.1)

-- ---- all rows
self_agrees : (row : Row) → agree row row ≡ true
self_agrees row = or_right _ _ (eq-eqb row.lane row.lane refl)

pub ticks_agree_push : (rows : List Row) (row : Row) → ticks_agree rows ≡ true → Agrees row rows
    → ticks_agree (rows ++ row ∷ []) ≡ true
ticks_agree_push rows row all one =
    all_push (λ a. list_all (agree a) (rows ++ row ∷ [])) rows row (each rows all one.by_each)
    (all_push (agree row) rows row one.with_each (self_agrees row))
  where
    each : (xs : List Row) → list_all (λ a. list_all (agree a) rows) xs ≡ true → list_all (λ a. agree a row) xs ≡ true
        → list_all (λ a. list_all (agree a) (rows ++ row ∷ [])) xs ≡ true
    each [] all back = refl
    each (x ∷ xs) all back =
        let alls = and_parts _ _ all in
        let backs = and_parts _ _ back in
        and_from _ _ (all_push (agree x) rows row alls.0 backs.0) (each xs alls.1 backs.1)
