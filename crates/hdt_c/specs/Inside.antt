pub mod ResourceKind
