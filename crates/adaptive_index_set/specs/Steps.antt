-- What the contracts of the inner functions cite besides. Assumes nothing.
use Rattle.std.specs.Prelude.{eqb, leb}
use Rattle.words.specs.Sets.{pick}
use Rattle.adaptive_index_set.specs.declared.Header.{Header}
use Rattle.adaptive_index_set.specs.declared.storage.Storage.{Storage}
use Rattle.adaptive_index_set.specs.declared.storage.Storage.TheVariants.{Narrow, Wide, Sparse}

-- dense or sparse by the mode, and narrow or wide by the span
unfoldable pub storage_of : Header → Storage
storage_of h = pick (eqb h.mode 0) (pick (leb h.span 32) (Narrow h.span) (Wide h.span h.count)) (Sparse h.count)
