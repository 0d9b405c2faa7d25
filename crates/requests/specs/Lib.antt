-- Document 02's requests, each in its sentences and then proved: messages (E1), traces (E4), the audit (E6) and the second verdict beside
-- it, the index (E8) by either, empty slots (E10), card to card (E11), open requests (E12), one card's switch (E13) and the write script (E14).
pub mod Messages
pub mod Trace
pub mod Audit
pub mod SoundSheets
pub mod FastLabels
pub mod SoundLabels
pub mod EmptySlots
pub mod CardToCard
pub mod OpenRequests
pub mod OneSwitch
pub mod WriteScript
