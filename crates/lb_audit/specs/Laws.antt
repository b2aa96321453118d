-- Laws of verdicts: what a text reads as may be judged, and each verdict is the one that its history deserves.
-- Cited by the laws `texts_may_be_judged`, `verdicts_are_exact` and `end_is_last`.
use Rattle.std.specs.Prelude.{◌≡◌, ℕ, ◌↔◌, true, List, [], ◌∷◌, ◌++◌}
use Rattle.std.specs.List.{list_all}
use Rattle.lb_trace.specs.Accepted.{IsHeader}
use Rattle.lb_trace.specs.declared.trace.Header.{Header}
use Rattle.lb_core.specs.declared.entry.Entry.{Entry}
use Rattle.lb_core.specs.declared.entry.What.{What}
use Rattle.lb_core.specs.declared.entry.What.TheVariants.{End}
use Rattle.lb_core.specs.declared.history.History.{History}
use Rattle.lb_core.specs.declared.rule.Rule.{Rule}
use Rattle.lb_core.specs.Legal.{IsLegalHistory}
use Rattle.lb_read.specs.declared.written.Read.{Read}
use Rattle.lb_read.specs.Written.{written_fits, as_read}
use Rattle.lb_read.specs.Whole.{ReadsAs}
use Rattle.lb_audit.specs.declared.verdict.Verdict.TheVariants.{Legal, Illegal}
use Rattle.lb_audit.specs.Verdict.{IsLegal, IsFirstFault, verdict_of}

-- what a text reads as has the header of an accepted trace, and entries in range
abbrev pub TextsMayBeJudged : Type 0
TextsMayBeJudged = (text : List ℕ) (read : Read) → ReadsAs text read
    → IsHeader read.header × (list_all written_fits read.entries ≡ true)

-- legal is said exactly of the legal ones
abbrev pub LegalExactly : Type 0
LegalExactly = (read : Read) → (verdict_of read ≡ Legal) ↔ IsLegal read

-- a ticket and a rule are named exactly where they are the first fault
abbrev pub FaultExactly : Type 0
FaultExactly = (read : Read) (place : ℕ) (rule : Rule) → (verdict_of read ≡ Illegal place rule) ↔ IsFirstFault read place rule

-- the entry is the end
abbrev pub IsEnd : What → Type 0
IsEnd (End unserved) = Unit {0}
IsEnd w = ⊥

-- the last of the entries is the end
pub record EndsWithEnd (entries : List Entry) : Type 0 where
  pub before : List Entry
  pub last : Entry
  pub all : entries ≡ before ++ last ∷ []
  pub is_end : IsEnd last.what

-- the last entry of a legal history is the end
abbrev pub EndIsLast : Type 0
EndIsLast = (h : Header) (entries : List Entry) → IsLegalHistory h entries → EndsWithEnd entries

-- a history, as its own text has it, is called legal exactly where it is a legal history
abbrev pub OwnVerdict : Type 0
OwnVerdict = (h : History) → (verdict_of (as_read h) ≡ Legal) ↔ IsLegalHistory h.header h.entries
