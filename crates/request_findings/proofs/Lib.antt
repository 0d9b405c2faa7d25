-- Theorems on the definitions of specs/, and lemmas.
pub mod HostRecordLaws
pub mod PlanFindingLaws
pub mod RoomLaws
pub mod WhatFitsLaws
pub mod WhoFailsLaws
