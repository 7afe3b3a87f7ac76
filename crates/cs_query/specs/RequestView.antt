-- A request of the code as the request that it stands for.
--
--   asked r    what the request r asks
use Rattle.cs_model.specs.Requests.{Request}
use Rattle.cs_query.specs.declared.request.Request.{Request as Read}

-- field by field
abbrev pub asked : Read → Request
asked r = record { query = r.query; hits = r.hits; completions = r.completions; offset = r.offset; facets = r.facets }
