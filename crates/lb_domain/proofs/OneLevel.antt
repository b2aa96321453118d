-- One level more of a CPU: it is dropped, or it adds the next domain to those below it.
-- For `domain_at` and `domains_in`.
use Rattle.std.proofs.Common.{◌≡◌, ℕ, suc, ◌+◌, ◌<◌, ◌≤◌, true, false, List, [], ◌++◌, length, drop, Option, Some, None, refl, sym, ◌∙◌, ap, arith, inl, inr, add-one}
use Rattle.std.specs.List.{cons_option}
use Rattle.std.proofs.lemmas.Bool.{cases_Bool}
use Rattle.std.proofs.lemmas.List.{append_assoc, drop_more}
use Rattle.lb_base.specs.declared.mask.Mask.{Mask}
use Rattle.lb_base.specs.declared.shape.Shape.{Shape}
use Rattle.lb_base.specs.declared.shape.LevelName.{LevelName}
use Rattle.lb_base.specs.declared.shape.LevelName.TheVariants.{Smt}
use Rattle.lb_levels.specs.declared.cpu_row.CpuRow.{CpuRow}
use Rattle.lb_levels.specs.Spans.{levels_of, level_at}
use Rattle.lb_domain.specs.declared.domain.Domain.{Domain}
use Rattle.lb_domain.specs.Domains.{cut_span, is_kept, position_above, shape_above, groups_of, kept_domain, below_next, domains_from}
use Rattle.lb_domain.specs.Steps.{step_span}

pub cons_is : {X : Type 0} (o : Option X) (xs : List X) → cons_option o xs ≡ cons_option o [] ++ xs
cons_is None xs = refl
cons_is (Some x) xs = refl

pub is_dropped : (group : ℕ → Mask) (cpu : ℕ) (below : Option Shape) (level : LevelName) (span : Mask)
    → is_kept below span ≡ false → None ≡ kept_domain group cpu below level span
is_dropped group cpu below level span no_kept = rw no_kept refl

pub is_there : (group : ℕ → Mask) (cpu : ℕ) (below : Option Shape) (level : LevelName) (span : Mask)
    → is_kept below span ≡ true → Some (record {
      shape = shape_above below level span;
      groups = groups_of group span cpu;
    }) ≡ kept_domain group cpu below level span
is_there group cpu below level span kept = rw kept refl

pub position_next : (group : ℕ → Mask) (cpu : ℕ) (below : Option Shape) (level : LevelName) (span : Mask) (n : ℕ)
    → position_above below ≤ n → position_above (below_next (kept_domain group cpu below level span) below) ≤ n + 1
position_next group cpu below level span n at =
    elim (cases_Bool (is_kept below span)) [
      | inl kept ↦ rw kept (omega (arith, at))
      | inr dropped ↦ rw dropped (omega (arith, at))
    ]

-- one level on
pub level_more : (cpus : List CpuRow) (table : List (List ℕ)) (part : Mask) (cpu level : ℕ) (below : Option Shape)
    (domains : List Domain) → level < length (levels_of table)
    → domains ++ domains_from (cut_span cpus table part) cpu (step_span cpus table part level) below
    (drop level (levels_of table))
    ≡ (domains ++ cons_option (kept_domain (step_span cpus table part level) cpu below (level_at table level)
    (cut_span cpus table part (level_at table level) cpu)) [])
    ++ domains_from (cut_span cpus table part) cpu (step_span cpus table part (level + 1))
    (below_next (kept_domain (step_span cpus table part level) cpu below (level_at table level)
    (cut_span cpus table part (level_at table level) cpu)) below) (drop (level + 1) (levels_of table))
level_more cpus table part cpu level below domains within =
    let found = kept_domain (step_span cpus table part level) cpu below (level_at table level)
    (cut_span cpus table part (level_at table level) cpu) in
    let rest : ℕ → List Domain = λ next. domains_from (cut_span cpus table part) cpu (step_span cpus table part next)
    (below_next found below) (drop (level + 1) (levels_of table)) in
    ap (λ (ls : List LevelName). domains ++ domains_from (cut_span cpus table part) cpu
    (step_span cpus table part level) below ls) (drop_more (levels_of table) level Smt within)
    ∙ ap (λ (ds : List Domain). domains ++ ds) (cons_is found (rest (suc level)))
    ∙ sym (append_assoc domains (cons_option found []) (rest (suc level)))
    ∙ ap (λ (n : ℕ). (domains ++ cons_option found []) ++ rest n) (sym (add-one level))

abbrev pub domain_with : Shape → List Mask → Domain
domain_with shape groups = record { shape = shape; groups = groups }
