mod Form_fits
mod Asked_all
mod Offset_ranged
pub mod Said_built
mod Delivery_takes
pub mod Has_room
pub mod Alone_leads
pub mod Safe_throughout
mod Leads
mod Written
mod Items_lead
mod Run_leads
mod Check_leads
pub mod Whole
pub mod Other_ending
pub mod Refused_in_script
mod Worked
