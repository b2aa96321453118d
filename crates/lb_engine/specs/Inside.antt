-- What holds inside the engine: the levels are those of the header's machine, and each version has the
-- domains within its masks.
-- What contracts see of the type `Engine`.
use Rattle.std.specs.Prelude.{◌≡◌, All, List}
use Rattle.lb_levels.specs.Rows.{Layout, layout_of}
use Rattle.lb_domain.specs.Topologies.{DomainsWithin, domains_within}
use Rattle.lb_trace.specs.declared.trace.Header.{Header}

pub record IsInside (h : Header) (layout : Layout) (versions : List DomainsWithin) : Type 0 where
  pub layout_is : layout ≡ layout_of h.cpus h.distances
  pub within : All (λ t. t ≡ domains_within h.cpus h.distances t.masks) versions
