-- Preprocessing a job over what an analysis sends is preprocessing it over the whole tree: of all of preprocessing, with macros,
-- conditions, includes whose names are computed, operands of `__has_include`, line directives and files that are read once.
--     Mirror     the law, and what it asks of a job
pub mod Mirror
