-- A work ends on its input in one way.
-- For `finish`.
use Rattle.std.proofs.Common.{◌≡◌, ℕ, List, Option, [], Some, None, sym, ◌∙◌, ap, subst, inl, inr}
use native.Mathlib.Omega.{arith}
use Rattle.std.specs.Prelude.{IfSome}
use Rattle.lb_trace.specs.declared.trace.Code.TheVariants.{BadLine}
use Rattle.lb_read.specs.declared.written.Read.{Read}
use Rattle.lb_read.specs.Laws.{ReadOnce, NoneIsBad, OneIsFirst}
use Rattle.lb_audit.specs.Verdict.{verdict_of}
use Rattle.lb_words.specs.declared.work.Work.{Work}
use Rattle.lb_words.specs.declared.work.Work.TheVariants.{Step, Run, Topo, Check, Gen, Sum}
use Rattle.lb.specs.declared.status.Status.{Status}
use Rattle.lb.specs.declared.status.Status.TheVariants as status
use Rattle.lb.specs.Invocation.{Stream}
use Rattle.lb.specs.Works.{status_of_verdict, OfInput, IsInput, IsJudged, IsBad, IsStatusOfHistory, IsStatusOf}

-- that a text reads as one history, or has one first bad line
pub record Reading : Type 0 where
  pub once : ReadOnce
  pub apart : NoneIsBad
  pub first : OneIsFirst

-- what holds of the input holds of these bytes
some_input : (before : Option (List ℕ)) (input : List ℕ) (P : List ℕ → Type 0) → before ≡ Some input → IfSome before P → P input
some_input None input P is h = absurd (cc)
some_input (Some bytes) input P is h = let same : bytes ≡ input = cc in subst P same h

pub of_input : (work : Work) (source : Stream) (input : List ℕ) (P : List ℕ → Type 0) → IsInput work source input
    → OfInput work source P → P input
of_input Step source input P is h = some_input source.before input P is h
of_input Run source input P is h = some_input source.before input P is h
of_input Topo source input P is h = some_input source.before input P is h
of_input Check source input P is h = some_input source.before input P is h
of_input (Gen number rows) source input P is h = subst P (sym is) h
of_input (Sum number rows) source input P is h = subst P (sym is) h

-- what follows of each input follows of this one
some_each : (before : Option (List ℕ)) (P Q : List ℕ → Type 0) → ((i : List ℕ) → P i → Q i) → IfSome before P → IfSome before Q
some_each None P Q f h = tt
some_each (Some bytes) P Q f h = f bytes h

pub of_each : (work : Work) (source : Stream) (P Q : List ℕ → Type 0) → ((i : List ℕ) → P i → Q i)
    → OfInput work source P → OfInput work source Q
of_each Step source P Q f h = some_each source.before P Q f h
of_each Run source P Q f h = some_each source.before P Q f h
of_each Topo source P Q f h = some_each source.before P Q f h
of_each Check source P Q f h = some_each source.before P Q f h
of_each (Gen number rows) source P Q f h = f [] h
of_each (Sum number rows) source P Q f h = f [] h

both_judged : Reading → (input : List ℕ) (a b : Status) → IsJudged input a → IsJudged input b → a ≡ b
both_judged law input a b x y =
    let same : x.read ≡ y.read = law.once input x.read y.read x.reads y.reads in
    x.judged ∙ (ap (λ (r : Read). status_of_verdict (verdict_of r)) same ∙ sym y.judged)

both_bad : Reading → (input : List ℕ) (a b : Status) → IsBad input a → IsBad input b → a ≡ b
both_bad law input a b x y =
    let same : x.line ≡ y.line = law.first input x.line y.line x.bad y.bad in
    x.refused ∙ (ap (λ (n : ℕ). status.Refused n BadLine) same ∙ sym y.refused)

one_history_end : Reading → (input : List ℕ) (a b : Status) → IsStatusOfHistory input a → IsStatusOfHistory input b → a ≡ b
one_history_end law input a b (inl x) (inl y) = x.1 ∙ sym y.1
one_history_end law input a b (inl x) (inr y) = absurd (omega (arith, x.0, y.0))
one_history_end law input a b (inr x) (inl y) = absurd (omega (arith, x.0, y.0))
one_history_end law input a b (inr (within, inl x)) (inr (short, inl y)) = both_judged law input a b x y
one_history_end law input a b (inr (within, inl x)) (inr (short, inr y)) = absurd (law.apart input x.read y.line x.reads y.bad)
one_history_end law input a b (inr (within, inr x)) (inr (short, inl y)) = absurd (law.apart input y.read x.line y.reads x.bad)
one_history_end law input a b (inr (within, inr x)) (inr (short, inr y)) = both_bad law input a b x y

pub one_end : Reading → (work : Work) (input : List ℕ) (a b : Status) → IsStatusOf work input a → IsStatusOf work input b → a ≡ b
one_end law Step input a b x y = x ∙ sym y
one_end law Run input a b x y = x ∙ sym y
one_end law Topo input a b x y = x ∙ sym y
one_end law Check input a b x y = one_history_end law input a b x y
one_end law (Gen number rows) input a b x y = x ∙ sym y
one_end law (Sum number rows) input a b x y = x ∙ sym y
