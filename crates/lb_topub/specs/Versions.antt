-- What contracts see of a publisher, of a looker and of a look: the versions that were published up to some moment,
-- in order, each with its whole topology. Version n is the n-th of them.
-- Cited by the contracts of `Known::with`, `Looked::topology`, `Publisher::publish` and others; also by `lb_cpu` and
-- `lb_lane`.
use Rattle.std.specs.Prelude.{◌≡◌, ◌-◌, List, [], ◌∷◌, ◌++◌, length, Some, slice_get}
use Rattle.logbook.specs.Pages.{Book}
use Rattle.lb_domain.specs.Topologies.{DomainsWithin}

pub record VersionsSeen : Type 0 where
  -- whose versions they are: those of one publisher, its lookers and their looks have the same
  pub book : Book
  pub topologies : List DomainsWithin

abbrev pub add_version : VersionsSeen → DomainsWithin → VersionsSeen
add_version s next = record { book = s.book; topologies = s.topologies ++ next ∷ [] }

-- the topology is that of the last of these versions
abbrev pub IsNewest : DomainsWithin → List DomainsWithin → Type 0
IsNewest t topologies = slice_get topologies (length topologies - 1) ≡ Some t
