mod Known_more
mod Goes_read
mod Never_done
mod Steady_read
pub mod Told_front
mod Other_text
mod Lines_more
mod More_next
