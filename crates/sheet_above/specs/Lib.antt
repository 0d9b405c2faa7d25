-- The bridge above a bus: the definition (Parents) and its laws by records, nodes and number; then the two ways to it, the table of all
-- buses and the search for one; what they tell; and all bridges above a bus.
pub mod Parents
pub mod ParentsLaws
pub mod Table
pub mod TableLaws
pub mod SearchLaws
pub mod ToldLaws
pub mod FunctionsLaws
pub mod Bridges
pub mod BridgesLaws
