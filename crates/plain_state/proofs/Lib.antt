pub mod Found_changed
