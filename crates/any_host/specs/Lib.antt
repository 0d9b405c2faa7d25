-- A host record for a sheet of which no host is told, and that it lets through what any host does.
pub mod AnyHost
pub mod AnyHostLaws
