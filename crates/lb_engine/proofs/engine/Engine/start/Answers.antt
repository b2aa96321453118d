-- For `Engine::start` of src/engine/opening.rt: the machine of an accepted trace before any entry.
use Rattle.std.proofs.Common.{List, [], ◌∷◌, length, map, replicate, None, refl, sym, ap, ◌∙◌}
use Rattle.std.proofs.lemmas.List.{length-map}
use Rattle.lb_domain.specs.Topologies.{DomainsWithin}
use Rattle.lb_queue.specs.Figures.{figure}
use Rattle.lb_queue.specs.Queue.{BookedQueue}
use Rattle.lb_trace.specs.declared.trace.Header.{Header}
use Rattle.lb_core.specs.Course.{opening_course}
use Rattle.lb_engine.specs.Held.{booked_at}
use Rattle.lb_engine.proofs.Queues.{states, bookings}
use Rattle.lb_engine.proofs.Starting.{opening_states, opening_figs, fit_start, start_is, none_booked}
use Rattle.lb_engine.proofs.engine.Engine.start.Goals as goal

pub returns-clause-machine : goal.returns-clause-machine
returns-clause-machine c =
    let h = c.args.header.now in
    let cpus = c.in_ok-cpus.ensures in
    let lanes = c.in_ok-courses.ensures in
    let same = c.in_ok-header.ensures in
    start_is h _ _ _ _ _ _ _ _ same
    (ap (λ (l : List DomainsWithin). map (λ t. t.masks) l) c.in_ok-versions.ensures)
    (ap (λ (l : List BookedQueue). states l) cpus.queues ∙ opening_states h)
    (cpus.figures ∙ ap (λ (l : List BookedQueue). map (λ (q : BookedQueue). figure q.state 0 0 ∷ []) l) cpus.queues
    ∙ opening_figs h)
    (lanes.courses ∙ ap (λ (x : Header). replicate x.lanes (opening_course (length x.cpus))) same)
    (lanes.last ∙ ap (λ (x : Header). replicate x.lanes 0) same)
    cpus.ticked c.in_ok-places.ensures

pub returns-clause-hands : goal.returns-clause-hands
returns-clause-hands c =
    let h = c.args.header.now in
    let cpus = c.in_ok-cpus.ensures in
    let lanes = c.in_ok-courses.ensures in
    let same = c.in_ok-header.ensures in
    fit_start _ h.lanes (opening_course (length h.cpus))
    (lanes.hands ∙ ap (λ (x : Header). replicate x.lanes None) same)
    (lanes.courses ∙ ap (λ (x : Header). replicate x.lanes (opening_course (length x.cpus))) same) refl
    (length-map _ (λ (q : BookedQueue). q.booked) ∙ sym (length-map _ (λ (q : BookedQueue). q.state)))
    (λ cpu. ap (λ (l : List BookedQueue). booked_at (bookings l) cpu) cpus.queues ∙ none_booked h cpu)
