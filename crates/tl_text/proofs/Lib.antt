mod NumberLemmas
mod SettingLemmas
mod ShapeLemmas
