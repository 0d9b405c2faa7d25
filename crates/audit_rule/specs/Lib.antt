-- Another firmware's sheet (document 02, E6). First the definitions: what is accepted (Host, Accepted), then the number, test by test
-- (Audit); then the laws by subject; then the theorems that others cite: TreeLaws (50), NestedLaws (51), DisjointLaws (52), AuditLaws,
-- AcceptedLaws.
pub mod Host
pub mod Accepted
pub mod Audit
pub mod Examples
