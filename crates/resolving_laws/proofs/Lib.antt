-- Lists and answers.
pub mod Fewness
pub mod Answering
pub mod Passed
-- Reordering.
pub mod EffectLaws
pub mod SymbolLaws
pub mod MergingLaws
pub mod GroundSize
pub mod Reordering
pub mod Places
pub mod Entries
pub mod FromWords
pub mod SameLaws
-- Rereading.
pub mod Stands
pub mod Standing
pub mod MergedLaws
pub mod Regrouped
pub mod GroupAgain
pub mod BroughtAgain
pub mod MergedAgain
pub mod Unforced
pub mod Settling
pub mod Reresolving
pub mod WellParts
pub mod WellGround
pub mod Below
pub mod Rereading
pub mod GivenReadable
-- One run of effects.
pub mod FlatLaws
-- The theorems.
pub mod Texts
pub mod Faults
