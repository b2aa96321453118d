-- What was made before anything was written, what was written of it and what the report tells give the clauses
-- `answers` and `completes`.
-- For `finish`.
use Rattle.std.proofs.Common.{◌≡◌, ℕ, List, Option, Some, refl, sym, ◌∙◌, subst, inl, inr}
use Rattle.lb_words.specs.declared.work.Work.{Work}
use Rattle.lb.specs.declared.status.Status.{Status}
use Rattle.lb.specs.declared.status.Status.TheVariants as status
use Rattle.lb.specs.Invocation.{Stream, Invocation, IsUntouched}
use Rattle.lb.specs.Works.{IsInput, OfInput, IsStatusOf, NamesFault, Fails, IsDone}
use Rattle.lb.specs.Answers.{OfWork, FailsCall, Says, Told, Tells, Reports, Answers, Completes}
use Rattle.lb.proofs.Ending.{Reading, of_input, of_each, one_end}

-- ---- before the report
-- the work that is asked for fails
pub failed : (end : Status) (asked : Option Work) (source : Stream) (work : Work) → asked ≡ Some work → Fails work source end
    → FailsCall end asked source
failed status.Done asked source work is s = absurd s.0
failed status.ReadFault asked source work is s = (work, is, s)
failed status.Usage asked source work is s = absurd s.0
failed (status.Refused line code) asked source work is s = (work, is, s)
failed status.WriteFault asked source work is s = absurd s.0
failed status.NoMemory asked source work is s = tt
failed (status.Illegal ticket rule) asked source work is s = (work, is, s)

-- and nothing was written
pub stopped : (end : Status) (c : Invocation) → FailsCall end c.work c.source → IsUntouched c.out → Says end c
stopped status.Done c f u = absurd f.2.0
stopped status.ReadFault c f u = (f, u)
stopped status.Usage c f u = (f, u)
stopped (status.Refused line code) c f u = (f, u)
stopped status.WriteFault c f u = absurd f.2.0
stopped status.NoMemory c f u = (f, u)
stopped (status.Illegal ticket rule) c f u = (f, u)

-- where something is wrong with the input, nothing was written
untouched : (end : Status) (c : Invocation) → NamesFault end → Says end c → IsUntouched c.out
untouched status.Done c r w = absurd r
untouched status.ReadFault c r w = absurd r
untouched status.Usage c r w = absurd r
untouched (status.Refused line code) c r w = w.1
untouched status.WriteFault c r w = absurd r
untouched status.NoMemory c r w = absurd r
untouched (status.Illegal ticket rule) c r w = w.1

-- ---- the report
told : (s : Status) (c : Invocation) (error : Stream) → Says s c → Told s error → Answers s c error
told status.Done c error w t = (w, t)
told status.ReadFault c error w t = (w, t)
told status.Usage c error w t = (w, t)
told (status.Refused line code) c error w t = (w, t)
told status.WriteFault c error w t = inl (w, t)
told status.NoMemory c error w t = (w, t)
told (status.Illegal ticket rule) c error w t = (w, t)

tells : (was now : Status) (c : Invocation) (error : Stream) → Says was c → Tells was now error → Answers now c error
tells was now c error w r =
    elim r [
      | inl p ↦ subst (λ (s : Status). Answers s c error) (sym p.0) (told was c error w p.1)
      | inr p ↦ subst (λ (s : Status). Answers s c error) (sym p.0) (inr (was, w, p.1))
    ]

pub reported : (was now : Status) (c : Invocation) (error : Stream) → Says was c → Reports was now error → Answers now c error
reported was now c error w r =
    elim r [
      | inl p ↦ tells was now c error w p
      | inr p ↦ tells status.NoMemory now c error (tt, untouched was c p.0 w) p.1
    ]

-- ---- completeness
-- what holds of the input of the work that is asked for holds of these bytes
of_work : (asked : Option Work) (source : Stream) (work : Work) (input : List ℕ) (P : Work → List ℕ → Type 0)
    → asked ≡ Some work → IsInput work source input → OfWork asked (λ w. OfInput w source (P w)) → P work input
of_work asked source work input P is told h =
    let one : Some h.0 ≡ Some work = sym h.1 ∙ is in
    let same : h.0 ≡ work = cc in
    of_input work source input (P work) told (subst (λ (w : Work). OfInput w source (P w)) same h.2)

-- a work that is done ended so
done_there : (work : Work) (source : Stream) (output : List ℕ) → OfInput work source (λ i. IsDone work i output)
    → OfInput work source (λ i. IsStatusOf work i status.Done)
done_there work source output h = of_each work source (λ i. IsDone work i output) (λ i. IsStatusOf work i status.Done)
    (λ i d. d.0) h

pub completes : Reading → (s : Status) (c : Invocation) (error : Stream) → Answers s c error → Completes s c error
completes law status.Done c error w work input end is told e r1 r2 r3 =
    let done : OfWork c.work (λ x. OfInput x c.source (λ i. IsStatusOf x i status.Done)) =
    (w.0.1.0, w.0.1.1, done_there w.0.1.0 c.source w.0.0 w.0.1.2.1) in
    inl (one_end law work input status.Done end
    (of_work c.work c.source work input (λ x i. IsStatusOf x i status.Done) is told done) e)
completes law status.ReadFault c error w work input end is told e r1 r2 r3 = absurd (r1 w.0.0.2.1)
completes law status.Usage c error w work input end is told e r1 r2 r3 = absurd (cc)
completes law (status.Refused line code) c error w work input end is told e r1 r2 r3 =
    inl (one_end law work input (status.Refused line code) end
    (of_work c.work c.source work input (λ x i. IsStatusOf x i (status.Refused line code)) is told
    (w.0.0.0, w.0.0.1, w.0.0.2.1)) e)
completes law status.WriteFault c error w work input end is told e r1 r2 r3 = absurd
    (elim w [ inl p ↦ r2 p.0.0 | inr p ↦ r3 p.2.2 ])
completes law status.NoMemory c error w work input end is told e r1 r2 r3 = inr refl
completes law (status.Illegal ticket rule) c error w work input end is told e r1 r2 r3 =
    inl (one_end law work input (status.Illegal ticket rule) end
    (of_work c.work c.source work input (λ x i. IsStatusOf x i (status.Illegal ticket rule)) is told
    (w.0.0.0, w.0.0.1, w.0.0.2.1)) e)
