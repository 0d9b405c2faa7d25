-- The index of a sheet with one owner for every address, as an accepted one is (document 02, E8). First the definitions: the owners,
-- insertion by key, the search (Owners, Insert, Search). Then laws by subject; then what others cite: InsertLaws, CountLaws (how many
-- owners), PassLaws (record by record), WordLaws (an owner's word), and IndexLaws: a search among the sorted owners answers as the walk does.
pub mod Owners
pub mod Insert
pub mod Search
