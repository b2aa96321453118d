-- The text of a trace's topologies: for each version its number, and for each CPU a line for each of
-- its domains, with the level, the span and the groups in ring order. Version 1 has the masks of the
-- header, and each rebuild makes the next version.
-- Cited by the contracts of `put_cpus`, `topology_text`, `put_domain` and others; also by `lb`.
use Rattle.std.specs.Prelude.{ℕ, ◌+◌, Option, Some, None, List, [], ◌∷◌, ◌++◌, codes, decimal}
use Rattle.std.specs.List.{flat_map, filter_map}
use Rattle.lb_base.specs.declared.mask.Mask.{Mask}
use Rattle.lb_base.specs.declared.shape.LevelName.{LevelName}
use Rattle.lb_base.specs.declared.shape.LevelName.TheVariants.{Smt, Mc, Pkg, Numa}
use Rattle.lb_levels.specs.declared.cpu_row.CpuRow.{CpuRow}
use Rattle.lb_text.specs.declared.marks.TheConstants.{LINE_FEED}
use Rattle.lb_text.specs.Runs.{list_text}
use Rattle.lb_domain.specs.declared.domain.Domain.{Domain}
use Rattle.lb_domain.specs.Domains.{topology_of}
use Rattle.lb_trace.specs.declared.trace.Command.{Command}
use Rattle.lb_trace.specs.declared.trace.Command.TheVariants.{Rebuild}
use Rattle.lb_trace.specs.declared.trace.Trace.{Trace}

-- the name of a level; a level of nodes has its distance behind it
abbrev pub level_text : LevelName → List ℕ
level_text Smt = codes "SMT"
level_text Mc = codes "MC"
level_text Pkg = codes "PKG"
level_text (Numa distance) = codes "NUMA" ++ decimal distance

-- groups, each behind a bar
abbrev pub groups_text : List Mask → List ℕ
groups_text groups = flat_map (λ group. codes " | " ++ list_text group) groups

-- what each line of a CPU begins with
abbrev pub cpu_text : ℕ → List ℕ
cpu_text cpu = codes "cpu " ++ decimal cpu ++ codes " "

-- the line of a domain of a CPU
unfoldable pub domain_line : ℕ → Domain → List ℕ
domain_line cpu domain =
    cpu_text cpu ++ level_text domain.shape.name ++ codes " " ++ list_text domain.shape.span
    ++ groups_text domain.groups
    ++ LINE_FEED ∷ []

-- the lines of a CPU with these domains; one line where it has none
abbrev pub cpu_lines : ℕ → List Domain → List ℕ
cpu_lines cpu [] = cpu_text cpu ++ codes "-" ++ LINE_FEED ∷ []
cpu_lines cpu (domain ∷ domains) = flat_map (domain_line cpu) (domain ∷ domains)

-- the lines of CPUs, the first of which has this number
abbrev pub cpus_lines : ℕ → List (List Domain) → List ℕ
cpus_lines cpu [] = []
cpus_lines cpu (domains ∷ others) = cpu_lines cpu domains ++ cpus_lines (cpu + 1) others

-- the lines of a version with these masks, on the machine of these CPUs and distances
unfoldable pub version_text : List CpuRow → List (List ℕ) → ℕ → List Mask → List ℕ
version_text cpus table version parts =
    codes "version " ++ decimal version ++ LINE_FEED ∷ [] ++ cpus_lines 0 (topology_of cpus table parts)

-- the versions of these partitions, the first of which has this number
abbrev pub versions_text : List CpuRow → List (List ℕ) → ℕ → List (List Mask) → List ℕ
versions_text cpus table version [] = []
versions_text cpus table version (parts ∷ later) =
    version_text cpus table version parts ++ versions_text cpus table (version + 1) later

-- the masks of a rebuild
abbrev pub rebuilt : Command → Option (List Mask)
rebuilt (Rebuild parts) = Some parts
rebuilt command = None

-- the masks of each version: those of the header, and those of each rebuild in file order
abbrev pub partitions : Trace → List (List Mask)
partitions trace = trace.header.parts ∷ filter_map (λ row. rebuilt row.command) trace.rows

-- the text of a trace's topologies
unfoldable pub topology_text : Trace → List ℕ
topology_text trace = versions_text trace.header.cpus trace.header.distances 1 (partitions trace)
