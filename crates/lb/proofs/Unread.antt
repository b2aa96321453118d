-- Where no input of a work could be had, since it is too long or its source fails: what the status then is.
-- For `input_of`.
use Rattle.std.proofs.Common.{◌≡◌, ℕ, ◌<◌, true, false, List, length, Result, Ok, Err, refl, sym, ap, subst, inl, leb}
use Rattle.std.specs.Prelude.{IfSome, IfErr}
use Rattle.std.specs.Result.{IsErrAnd}
use Rattle.std.proofs.lemmas.Bool.{lt-leb}
use Rattle.lb_io.specs.declared.whole.ReadError.{ReadError}
use Rattle.lb_io.specs.declared.whole.ReadError.TheVariants as read_errors
use Rattle.lb_trace.specs.declared.trace.TheConstants.{MAX_BYTES}
use Rattle.lb_trace.specs.declared.trace.Code.TheVariants.{TooLong}
use Rattle.lb_trace.specs.Grammar.{reading_of}
use Rattle.lb_words.specs.declared.work.Work.{Work}
use Rattle.lb_words.specs.declared.work.Work.TheVariants.{Step, Run, Topo, Check, Gen, Sum}
use Rattle.lb.specs.declared.status.Status.{Status}
use Rattle.lb.specs.declared.status.Status.TheVariants as status
use Rattle.lb.specs.Invocation.{Stream, HadFault}
use Rattle.lb.specs.Works.{reads, limit, status_of_reading, OfInput, IsStatusOf, Fails}
use Rattle.lb.specs.Failures.{status_of_read_error}
use Rattle.lb.proofs.Ending.{of_each}

-- ---- an input that is too long
long_trace : (text : List ℕ) → MAX_BYTES < length text → reading_of text ≡ Err (0, TooLong)
unfolding reading_of
long_trace text long = let no : leb (length text) MAX_BYTES ≡ false = lt-leb (length text) MAX_BYTES long in rw no refl

too_long : (work : Work) (input : List ℕ) → reads work ≡ true → limit work < length input
    → IsStatusOf work input (status.Refused 0 TooLong)
too_long Step input read long = sym (ap status_of_reading (long_trace input long))
too_long Run input read long = sym (ap status_of_reading (long_trace input long))
too_long Topo input read long = sym (ap status_of_reading (long_trace input long))
too_long Check input read long = inl (long, refl)
too_long (Gen number rows) input read long = absurd (cc)
too_long (Sum number rows) input read long = absurd (cc)

-- what holds of what the source told holds of the input of a work that reads it
of_told : (work : Work) (source : Stream) (P : List ℕ → Type 0) → reads work ≡ true → IfSome source.before P
    → OfInput work source P
of_told Step source P read h = h
of_told Run source P read h = h
of_told Topo source P read h = h
of_told Check source P read h = h
of_told (Gen number rows) source P read h = absurd (cc)
of_told (Sum number rows) source P read h = absurd (cc)

-- ---- the status
-- what holds of the status that an error is made into holds of the answer's error
pub made_into : {T : Type 0} (r : Result T Status) (s : Status) (P : Status → Type 0) → IsErrAnd r (λ made. made ≡ s)
    → P s → IfErr r P
made_into (Ok v) s P h p = tt
made_into (Err made) s P h p = subst P (sym h) p

-- where a source that is read up to so many bytes answers an error, the work fails with its status
pub read_failed : (work : Work) (source : Stream) (most : ℕ) (error : ReadError) → reads work ≡ true → most ≡ limit work
    → (error ≡ read_errors.ReadFault → HadFault source)
    → (error ≡ read_errors.TooLong → IfSome source.before (λ bytes. most < length bytes))
    → Fails work source (status_of_read_error error)
read_failed work source most read_errors.ReadFault read is fault long = (read, fault refl)
read_failed work source most read_errors.NoMemory read is fault long = tt
read_failed work source most read_errors.TooLong read is fault long =
    let told : OfInput work source (λ input. most < length input) = of_told work source _ read (long refl) in
    (tt, of_each work source _ _ (λ input l. too_long work input read (subst (λ (n : ℕ). n < length input) is l)) told)
