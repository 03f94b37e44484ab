-- What runs leave.
--     Several     the texts of several jobs, put by several clients
pub mod Several
