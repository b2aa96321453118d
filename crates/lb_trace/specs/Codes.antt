-- The words that are printed for the codes of refusals.
-- Cited by the contract of `Code::word`; also by `lb`.
use Rattle.std.specs.Prelude.{ℕ, List, codes}
use Rattle.lb_trace.specs.declared.trace.Code.{Code}
use Rattle.lb_trace.specs.declared.trace.Code.TheVariants as bad

abbrev pub code_word : Code → List ℕ
code_word bad.TooLong = codes "too-long"
code_word bad.Byte = codes "byte"
code_word bad.Cut = codes "cut"
code_word bad.Header = codes "header"
code_word bad.Kind = codes "kind"
code_word bad.Order = codes "order"
code_word bad.Many = codes "many"
code_word bad.Fields = codes "fields"
code_word bad.Number = codes "number"
code_word bad.List = codes "list"
code_word bad.Id = codes "id"
code_word bad.Cpu = codes "cpu"
code_word bad.Dist = codes "dist"
code_word bad.Nested = codes "nested"
code_word bad.NoCpu = codes "nocpu"
code_word bad.Overlap = codes "overlap"
code_word bad.Mask = codes "mask"
code_word bad.Ticks = codes "ticks"
code_word bad.BadLine = codes "bad-line"
